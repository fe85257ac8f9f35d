-- The definition: what an exchange by the rules comes to.
pub mod Exchanged
