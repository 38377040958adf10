pub mod Block
pub mod Chain
