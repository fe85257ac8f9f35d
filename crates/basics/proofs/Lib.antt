pub mod Choice
pub mod Bytes
pub mod Fill
pub mod First
pub mod Verdicts
pub mod Padding
pub mod Bits
