pub mod Numbers
pub mod WriteLane
pub mod Write
pub mod ReadLane
pub mod Read
pub mod Returns
