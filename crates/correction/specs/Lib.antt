pub mod Equations
pub mod Near
pub mod Polynomials
