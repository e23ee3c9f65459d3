pub mod FrontLemmas
pub mod LengthLemmas
pub mod MessageLemmas
pub mod SplittingLemmas
pub mod ConversationLemmas
pub mod AnsweringLemmas
pub mod ServingLemmas
pub mod TextLemmas
pub mod LineLemmas
pub mod PlaceLemmas
pub mod UnitLemmas
pub mod ChangeLemmas
pub mod SourceLemmas
mod PositionRows
mod ChangeRows
pub mod ListLemmas
