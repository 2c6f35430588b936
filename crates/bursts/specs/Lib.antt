pub mod Bursts
pub mod Layer
