pub mod LeftOut
pub mod Letters
pub mod Range
pub mod Sentence
pub mod Explaining
pub mod Opener
pub mod Origin
pub mod Code
