mod Examples
pub mod Reports
