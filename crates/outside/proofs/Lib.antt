-- The laws of what is drawn, and of what the supplier takes.
pub mod Drawn
pub mod Taken
