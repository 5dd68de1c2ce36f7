pub mod Document
pub mod Keys
pub mod Entry
pub mod RuleFile
pub mod Sizes
