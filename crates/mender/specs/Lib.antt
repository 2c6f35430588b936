pub mod Mended
pub mod Pivots
