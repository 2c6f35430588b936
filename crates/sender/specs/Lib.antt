pub mod Sending
pub mod Offers
pub mod Runs
