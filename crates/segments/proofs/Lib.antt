pub mod Sequences
pub mod Bits
pub mod Numbers
pub mod Levels
pub mod Back
pub mod Made
