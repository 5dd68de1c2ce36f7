-- What the contracts of this crate cite.
pub mod Acts
pub mod Lives
pub mod Moments
pub mod Naming
pub mod Ownership
pub mod Routing
pub mod TokenGives
pub mod TokenStands
