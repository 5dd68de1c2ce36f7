-- What the contracts of this crate cite.
pub mod Given
pub mod KeySnapshot
pub mod Lives
pub mod Moments
pub mod Naming
pub mod PlugGives
pub mod PlugStands
pub mod PointerSnapshot
pub mod Shown
pub mod ShownStands
