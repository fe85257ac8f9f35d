-- The demands' proofs: `Refusals` has demand 1, `Opening` demand 2, `Hiding` demand 3, `Unique` that a contract has one result.
pub mod Decided
pub mod Rules
pub mod Refusals
pub mod Passed
pub mod Opening
pub mod Hiding
pub mod Unique
