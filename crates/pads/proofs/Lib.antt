pub mod Pads
pub mod Unique
