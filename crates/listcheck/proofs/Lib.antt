-- The proofs of `listcheck`.
pub mod Chains
pub mod Checks
pub mod Clashes
pub mod Tallies
pub mod Legal
