pub mod Bytes
pub mod Numbers
pub mod Words
