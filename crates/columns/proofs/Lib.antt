pub mod Sets
pub mod Gathered
pub mod Sizes
pub mod Turned
