pub mod Cells
pub mod Strip
