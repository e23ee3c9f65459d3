pub mod SourceLemmas
pub mod BatchLemmas
pub mod KeptLemmas
pub mod PassLemmas
