pub mod Page
pub mod Code
