pub mod Markup
pub mod Places
pub mod PlaceLaws
pub mod EscapingLaws
pub mod Links
pub mod Code
