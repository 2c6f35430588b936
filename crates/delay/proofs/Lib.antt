pub mod Delayed
pub mod Cells
pub mod Step
pub mod Regions
pub mod Calls
pub mod ReturnLaws
