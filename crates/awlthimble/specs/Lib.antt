-- What a reader must believe of the C interface.
pub mod Answer
