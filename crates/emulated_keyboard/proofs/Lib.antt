pub mod ApartLaws
pub mod DeliveryLaws
mod Examples
mod HostExamples
pub mod HostReadingLaws
pub mod KeyboardLaws
pub mod ReadingLaws
pub mod RepeatLaws
pub mod ReportLaws
pub mod RequestLaws
pub mod SpanLaws
