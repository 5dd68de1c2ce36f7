pub mod ConsoleStands
pub mod Delivery
pub mod KmFunction
pub mod PortStands
pub mod Reading
pub mod Reports
pub mod Told
