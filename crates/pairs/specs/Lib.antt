-- What a reader must believe of pairs and roles, in the order of "Pairs"; and the masks of document 01, as they were.
pub mod Mask
pub mod Pair
pub mod Role
pub mod Numbers
pub mod Exact
