pub mod Words
pub mod Sha
pub mod ChaCha
pub mod Values
pub mod Calls
