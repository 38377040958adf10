pub mod Judged
pub mod Together
