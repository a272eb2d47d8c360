pub mod Ranges
pub mod Parts
pub mod Groups
