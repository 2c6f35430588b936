pub mod Places
pub mod Sent
pub mod Steps
pub mod Writer
pub mod Received
pub mod Reader
pub mod Laws
