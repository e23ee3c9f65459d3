pub mod CutLemmas
pub mod MakerLemmas
pub mod DeckLemmas
pub mod ToldLemmas
pub mod GivenLemmas
pub mod SurveyLemmas
pub mod RunLemmas
pub mod TextLemmas
pub mod ListingLemmas
mod WorkedRows
pub mod KeptLemmas
pub mod OctalLemmas
