pub mod Makes
pub mod Certificate
pub mod Disassembly
pub mod Running
pub mod Code
