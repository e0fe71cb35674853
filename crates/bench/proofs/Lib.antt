-- The marked words from the bench, proved together.
pub mod Table
