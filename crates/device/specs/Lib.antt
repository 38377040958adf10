pub mod Life
pub mod Logs
pub mod Rows
