pub mod Asked
pub mod Known
pub mod Reading
pub mod Rows
pub mod Tried
pub mod Writes
