pub mod Code
pub mod Parity
