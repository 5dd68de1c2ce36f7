pub mod Powering
pub mod Snapshots
pub mod Naming
mod Examples
