-- Laws that belong to no one function.
pub mod Unique
pub mod Fields
