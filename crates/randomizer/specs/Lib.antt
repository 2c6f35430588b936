pub mod Stages
pub mod Packets
pub mod Laws
pub mod Row
