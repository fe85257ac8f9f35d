-- Section 7's table as predicates, and the demands as types.
pub mod Rules
pub mod Demands
