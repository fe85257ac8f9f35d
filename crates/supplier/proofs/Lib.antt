-- The layers above cite Ready, Unique and Seeds.
mod Masked
mod Taken
pub mod Ready
pub mod Unique
pub mod Seeds
