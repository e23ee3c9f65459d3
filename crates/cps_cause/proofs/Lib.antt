pub mod SentenceLemmas
pub mod OpenerLemmas
