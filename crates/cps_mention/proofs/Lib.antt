pub mod CheckingLemmas
pub mod SpotLemmas
pub mod LineEditLemmas
pub mod SameButLemmas
mod WorkedRows
pub mod MacroNameLemmas
pub mod CallLineLemmas
