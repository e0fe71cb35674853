-- To be skipped by a reader of the definitions: a law is stated in it, and no promise.
pub mod Rebuild
