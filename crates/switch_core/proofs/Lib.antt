pub mod Bridging
pub mod Choices
pub mod Commuting
mod Examples
pub mod Fronts
pub mod Handing
pub mod Hearing
pub mod Independence
pub mod OrderKinds
mod Owners
pub mod Owning
pub mod Plugs
pub mod PortLists
pub mod Selecting
pub mod Stamping
pub mod TokenPower
pub mod TokenSelection
pub mod TokenViews
pub mod Views
mod Wiring
