pub mod Selections
pub mod Chosen
pub mod Prepare
pub mod Open
