pub mod Wrong
pub mod Receiving
pub mod Takes
