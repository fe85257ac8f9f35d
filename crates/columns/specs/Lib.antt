pub mod Sets
pub mod Gathered
pub mod Turned
