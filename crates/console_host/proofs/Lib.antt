-- The lemmas of this crate.
pub mod Accepting
pub mod Asking
pub mod Comes
pub mod Faultless
pub mod Judged
pub mod Sized
pub mod Standing
pub mod Ticking
pub mod Turning
