-- What serves the code alone, and no reader need believe.
pub mod FoundForms
pub mod Operations
pub mod Outcome
pub mod PeripheralRows
pub mod Slots
pub mod Terms
