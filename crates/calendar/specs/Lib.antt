pub mod Dates
pub mod Times
