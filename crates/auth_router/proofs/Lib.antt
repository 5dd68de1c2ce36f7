mod BridgeExamples
pub mod BridgeSteps
pub mod ControlSteps
pub mod EndpointSteps
pub mod JobCounts
pub mod JobOrdering
pub mod JobSteps
pub mod LiveActs
pub mod LiveDone
pub mod LiveSteps
pub mod Pasts
pub mod Sessions
pub mod Settles
mod SlotExamples
mod StageExamples
