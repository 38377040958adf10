pub mod Parts
pub mod Whole
