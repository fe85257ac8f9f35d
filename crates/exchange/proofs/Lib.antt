-- The laws of an exchange by the rules.
pub mod Exchanged
