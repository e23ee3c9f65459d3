-- What serves the code alone, and no reader need believe.
pub mod Walk
pub mod Groups
pub mod Found
pub mod Slots
pub mod Held
pub mod States
pub mod Listed
