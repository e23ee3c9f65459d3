-- What serves the code alone, and no reader need believe.
pub mod BegunLine
pub mod Input
pub mod Parts
