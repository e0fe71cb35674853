-- What a reader must believe of the small program: the line that it writes.
pub mod Text
pub mod Line
