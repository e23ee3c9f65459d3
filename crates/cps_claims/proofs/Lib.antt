pub mod ListedLemmas
mod WorkedRows
pub mod PartLemmas
pub mod CutLemmas
pub mod NumberLemmas
pub mod SlotLemmas
pub mod ReadingLemmas
pub mod AgreementLemmas
pub mod RepetitionLemmas
pub mod ShownLemmas
