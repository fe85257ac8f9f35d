-- The modules of proofs/ that belong to no one function. The layers above cite Facts and Unique alone.
mod Words
mod Sha
mod ChaCha
mod Calls
pub mod Facts
pub mod Unique
