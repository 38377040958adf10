pub mod History
pub mod Made
pub mod Passwords
pub mod Promises
pub mod Records
pub mod Windows
