pub mod Linear
pub mod Remainders
