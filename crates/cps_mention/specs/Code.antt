-- What serves the code alone, and no reader need believe.
pub mod Finding
pub mod MacroNames
