pub mod NumberLemmas
pub mod AlikeLemmas
pub mod SimpleLemmas
pub mod RequestLemmas
pub mod RequestRows
pub mod PlacingLemmas
pub mod NameLemmas
