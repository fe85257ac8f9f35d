pub mod Placed
pub mod Gathered
pub mod Selected
pub mod Unique
