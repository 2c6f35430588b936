pub mod Segments
pub mod Turns
pub mod Bottoms
pub mod Orders
pub mod Blocks
pub mod Layers
