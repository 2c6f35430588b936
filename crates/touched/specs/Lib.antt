pub mod Touched
pub mod Laws
