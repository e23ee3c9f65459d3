pub mod ListLemmas
pub mod NumberLemmas
pub mod AskedLemmas
pub mod ReplayLemmas
pub mod PassOneLemmas
pub mod RedoLemmas
pub mod TakenLemmas
pub mod SpliceLemmas
