mod Examples
pub mod MadeLaws
pub mod MotionLaws
pub mod MouseLaws
pub mod OrderLaws
pub mod ReadLaws
