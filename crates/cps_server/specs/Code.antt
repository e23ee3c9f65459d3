-- What serves the code alone, and no reader need believe.
pub mod Adding
pub mod Keeping
pub mod Listing
pub mod Naming
pub mod Opened
pub mod Providing
pub mod Outlining
pub mod Owing
pub mod Renaming
pub mod Said
pub mod Spacing
pub mod Taking
pub mod Telling
pub mod TokenList
pub mod Writing
