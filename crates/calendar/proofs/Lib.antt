pub mod Counts
pub mod Inverse
pub mod Years
