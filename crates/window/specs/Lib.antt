pub mod Frames
pub mod Served
