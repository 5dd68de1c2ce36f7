pub mod Health
pub mod HealthChange
