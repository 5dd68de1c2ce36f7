-- What the contracts of this crate cite.
pub mod Fits
pub mod Judging
pub mod Lives
pub mod Machine
pub mod Orders
pub mod Plan
pub mod Replies
pub mod Stands
