-- Laws that belong to no one function.
pub mod Masks
pub mod Exact
pub mod Clears
pub mod Numbers
pub mod Roles
pub mod Apart
pub mod Plain
pub mod Unique
pub mod Points
