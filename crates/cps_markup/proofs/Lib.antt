pub mod AddsLemmas
pub mod EscapingLemmas
pub mod IdentifierLemmas
