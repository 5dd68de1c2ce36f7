-- Lemmas that several proofs share.
mod Cuts
mod Examples
mod Faults
mod KindSteps
mod Places
mod Pushes
mod Steps
mod Walks
