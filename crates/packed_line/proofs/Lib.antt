pub mod Arrays
pub mod Packs
pub mod Groups
pub mod Words
pub mod Slots
