pub mod Chained
pub mod Placed
pub mod Reading
pub mod Sealed
