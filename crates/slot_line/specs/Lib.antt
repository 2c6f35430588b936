pub mod Slot
pub mod State
