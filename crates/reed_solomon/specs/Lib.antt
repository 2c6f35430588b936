pub mod Complete
pub mod Held
