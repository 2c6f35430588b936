pub mod Bytes
pub mod Coded
pub mod Division
pub mod Entries
pub mod Ring
pub mod Steps
pub mod Unique
pub mod Values
