-- The proofs of `singles`.
pub mod Each
