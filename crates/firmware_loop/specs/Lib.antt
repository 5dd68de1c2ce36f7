pub mod Batches
pub mod Lanes
