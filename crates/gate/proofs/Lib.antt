-- Laws of text, and that the line is determined.
pub mod Texts
pub mod Lines
pub mod Reading
pub mod Unique
