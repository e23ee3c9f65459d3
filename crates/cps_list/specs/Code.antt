-- What serves the code alone, and no reader need believe.
pub mod Front
pub mod Making
