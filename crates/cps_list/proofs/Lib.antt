pub mod FrontLemmas
pub mod TextLemmas
pub mod OrderLemmas
pub mod SymbolLemmas
pub mod RowLemmas
pub mod ViewLemmas
pub mod PrintoutLemmas
