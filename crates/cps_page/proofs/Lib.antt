pub mod EntryLemmas
pub mod WordLemmas
pub mod BlockLemmas
pub mod PlaceLemmas
pub mod PageLemmas
