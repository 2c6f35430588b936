pub mod Pn
pub mod Segment
pub mod Report
pub mod Laws
