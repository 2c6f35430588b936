pub mod Ring
pub mod Sizes
pub mod Branches
pub mod State
pub mod Laws
