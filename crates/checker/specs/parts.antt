-- To be skipped by a reader of the definitions: what the parts of the two calls ask of each other and promise. `Checked` and `Patched`
-- do not use it.
pub mod Stands
pub mod Fault
pub mod Ledger
pub mod Patch
