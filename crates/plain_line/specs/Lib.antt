pub mod Slot
pub mod Plain
