pub mod Corrected
pub mod Discrepancies
pub mod Elimination
pub mod Laws
pub mod Magnitudes
pub mod Roots
pub mod Syndromes
