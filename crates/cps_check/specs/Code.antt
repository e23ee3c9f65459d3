-- What serves the code alone, and no reader need believe.
pub mod Adding
pub mod Kept
pub mod Telling
