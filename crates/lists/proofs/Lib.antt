pub mod Grouped
pub mod Itemed
pub mod Worded
