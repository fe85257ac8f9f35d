-- The definitions: what is drawn, and what the supplier takes.
pub mod Drawn
pub mod Taken
