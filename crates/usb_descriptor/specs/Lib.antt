-- What the contracts of this crate cite.
pub mod Descriptor
pub mod Device
pub mod Endpoint
pub mod Fault
pub mod Place
pub mod Setting
pub mod Tally
pub mod View
