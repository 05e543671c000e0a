-- The proofs of `sizing`.
pub mod Codes
pub mod Sums
pub mod Enough
pub mod Callers
pub mod Fresh
