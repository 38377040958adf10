pub mod Spans
pub mod Writes
