pub mod Collecting
mod Examples
pub mod Reordering
mod Sorting
mod Visiting
