-- What a reader must believe of the check, in the order of "Region, layout, ledger" and "When the gate stays shut"; of the patch, in
-- that of "Patching"; and of sequences of patches, in the words of demand 3. `parts` is to be skipped: it has what inner parts ask of each
-- other and promise.
pub mod Lists
pub mod Region
pub mod Standing
pub mod Check
pub mod Patch
pub mod Edit
pub mod parts
