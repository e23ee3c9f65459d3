-- What serves the code alone, and no reader need believe.
pub mod ReadSoFar
pub mod TermsKept
pub mod TermsLeft
pub mod Twice
pub mod ValuedSoFar
pub mod WordsLeft
