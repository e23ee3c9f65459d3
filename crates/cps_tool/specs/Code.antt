-- What serves the code alone, and no reader need believe.
pub mod Calling
pub mod Files
pub mod NoCommand
pub mod Progress
