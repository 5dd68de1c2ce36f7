pub mod ConsoleLine
pub mod LogLine
pub mod Plug
pub mod PortLine
pub mod ReadBack
pub mod StopLine
pub mod Text
