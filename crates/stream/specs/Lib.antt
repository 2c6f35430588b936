pub mod Sent
pub mod Came
pub mod Carried
pub mod Laws
