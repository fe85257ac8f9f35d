pub mod Shapes
pub mod Message
pub mod Received
pub mod Unique
