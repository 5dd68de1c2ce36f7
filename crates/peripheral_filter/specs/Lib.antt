-- What the contracts of this crate cite.
pub mod Changes
pub mod Classes
pub mod Rules
pub mod Steps
pub mod Verdicts
