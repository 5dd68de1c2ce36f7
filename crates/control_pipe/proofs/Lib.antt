pub mod Addresses
mod Examples
mod HidExamples
pub mod HidLaws
pub mod Histories
pub mod Requests
pub mod Stages
