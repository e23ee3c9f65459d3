pub mod Entering
pub mod Edits
pub mod Code
