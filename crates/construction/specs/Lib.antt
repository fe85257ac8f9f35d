-- The definitions: the source's construction, the same on byte strings, and what is proved of them.
pub mod Paper
pub mod Transfer
pub mod Agreement
pub mod Demands
pub mod Marked
