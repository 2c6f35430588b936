pub mod Linear
pub mod Product
pub mod Powers
pub mod Tables
pub mod Laws
