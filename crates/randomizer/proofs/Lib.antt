pub mod Linear
pub mod Blocks
pub mod Steps
pub mod Packets
pub mod Rows
