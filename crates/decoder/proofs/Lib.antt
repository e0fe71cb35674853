-- Laws that belong to no one function.
pub mod Bools
pub mod Others
pub mod Says
pub mod Rebuilt
pub mod Classes
pub mod Taken
pub mod Counted
pub mod Bundles
pub mod Unique
pub mod Registers
pub mod Points
