pub mod Buttons
pub mod Choice
pub mod ChoiceStep
pub mod Moments
pub mod Panel
pub mod SelectorStands
