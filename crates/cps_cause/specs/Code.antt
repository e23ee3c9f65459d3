-- What serves the code alone, and no reader need believe.
pub mod LeftOutNames
pub mod OpenNow
pub mod SymbolsNow
pub mod Telling
