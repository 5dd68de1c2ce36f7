pub mod Examples
pub mod Independence
pub mod Numbers
