-- What serves the code alone, and no reader need believe.
pub mod Deck
pub mod Runs
pub mod Surveys
pub mod Kept
