pub mod Mentions
pub mod Agreement
pub mod Spots
pub mod CallLines
pub mod Code
pub mod SameBut
pub mod LineEdits
pub mod Spacing
