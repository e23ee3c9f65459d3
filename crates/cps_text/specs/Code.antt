-- What serves the code alone, and no reader need believe.
pub mod MaskedCard
pub mod NameFronts
pub mod NameNumbers
pub mod OperandsLeft
pub mod PartsLeft
pub mod Substitutes
