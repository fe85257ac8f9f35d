pub mod Chosen
pub mod Judged
pub mod Prepared
pub mod Opened
pub mod Unique
pub mod Seeds
