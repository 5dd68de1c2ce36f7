pub mod Choices
mod Examples
pub mod PortsDown
pub mod Stands
