pub mod PassLaws
pub mod ElementLaws
pub mod BlankLaws
pub mod ArrayLaws
pub mod SourceLaws
pub mod FlagLaws
pub mod LayoutLaws
pub mod ReportLaws
mod Examples
mod PushLaws
