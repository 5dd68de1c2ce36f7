pub mod ConsoleLineLaws
pub mod Hexadecimal
pub mod LogLineLaws
pub mod PortLineLaws
pub mod ReadingLaws
pub mod ReadRanges
pub mod Rendering
pub mod StopLineLaws
pub mod WordEnds
mod Examples
