pub mod Apart
mod DeliveryExamples
pub mod DeliveryLaw
mod FewKeys
mod KeyAgrees
mod KeyDelivery
mod KeyRates
mod KeyReadable
mod KeyTells
mod KeyViews
pub mod KmFunctionLaws
mod PointerAgrees
mod PointerDelivery
mod PointerViews
mod Polls
mod ReadBack
mod SeenViews
pub mod Showing
pub mod Sides
