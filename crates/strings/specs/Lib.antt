pub mod Selected
pub mod Gathered
