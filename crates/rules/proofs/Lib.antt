-- Laws that belong to no one function.
pub mod Tests
pub mod Says
pub mod Lowest
pub mod Landing
pub mod Refusal
pub mod Reasons
pub mod Unique
pub mod Points
