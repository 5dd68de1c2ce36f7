pub mod AcceptedChanges
mod Examples
pub mod KeyCounts
pub mod KeyLatchLaws
pub mod PointerGiven
pub mod PointerLatchLaws
