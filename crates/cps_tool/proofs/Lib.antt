pub mod CommandLemmas
pub mod EditLemmas
pub mod NumberLemmas
pub mod OrderLemmas
pub mod ProgressLemmas
pub mod RangeLemmas
pub mod ServingLemmas
