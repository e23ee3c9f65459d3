-- What serves the code alone, and no reader need believe.
pub mod DigitsKept
pub mod Ends
pub mod FormerFinals
pub mod Gathering
pub mod ItemsKept
pub mod Kept
pub mod FinalsPatch
pub mod NamesGathering
pub mod NamesKept
pub mod NamesPassing
pub mod RunGathering
pub mod Storage
