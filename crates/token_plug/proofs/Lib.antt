mod Examples
pub mod SlotSteps
pub mod Together
pub mod Replying
pub mod Ticking
pub mod Choosing
pub mod Effects
pub mod Ownership
pub mod Barring
pub mod Naming
pub mod Staying
pub mod Following
