pub mod Calls
pub mod Hearing
pub mod Told
