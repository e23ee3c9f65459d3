-- What serves the code alone, and no reader need believe.
pub mod Answering
pub mod Front
pub mod Spots
