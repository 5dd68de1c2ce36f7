pub mod Rests
pub mod Values
pub mod Tables
pub mod Lines
pub mod WorkedFiles
