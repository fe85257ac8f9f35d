-- The laws of the definitions, and the theorems that `specs/` states.
pub mod Bytewise
pub mod Rows
pub mod Agreement
pub mod Demands
pub mod Marked
