pub mod PutLemmas
pub mod SourceLemmas
pub mod FlagLemmas
pub mod MarkLemmas
pub mod ShownLemmas
pub mod LineLemmas
pub mod KeepingLemmas
pub mod TextMarksLemmas
pub mod AgreementLemmas
mod WorkedRows
mod RenameLemmas
mod OutlineLemmas
mod RowLemmas
mod TellingLemmas
mod CompletionLemmas
mod QueryFloatLemmas
mod HintLemmas
mod OfferLemmas
mod EditingLemmas
mod TokenLemmas
mod SpacingLemmas
pub mod FloatLemmas
pub mod SaidLemmas
pub mod ServerLemmas
pub mod TextLemmas
pub mod WritingLemmas
