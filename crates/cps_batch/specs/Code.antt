-- What serves the code alone, and no reader need believe.
pub mod Kept
pub mod KeptLines
pub mod Passes
pub mod Words
