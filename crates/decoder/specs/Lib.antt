-- What a reader must believe of the decoder, in the order of "Word classes". `parts` is to be skipped: it serves a law.
pub mod Bits
pub mod Word
pub mod Kinds
pub mod Place
pub mod Immediate
pub mod Question
pub mod Bundle
pub mod parts
