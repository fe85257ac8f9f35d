pub mod Taking
pub mod Masking
pub mod Answer
pub mod Calls
