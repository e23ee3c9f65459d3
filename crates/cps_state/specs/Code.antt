-- What serves the code alone, and no reader need believe.
pub mod ContentsKept
pub mod Exchange
pub mod KeptAnswers
pub mod OtherAnswers
pub mod Line
pub mod Log
pub mod MadeKept
pub mod Scratch
