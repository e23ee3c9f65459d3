pub mod EditReplies
pub mod Command
pub mod Reply
pub mod Written
pub mod Script
pub mod CommandLine
pub mod Code
