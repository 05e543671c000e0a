-- The proofs of `searching`.
pub mod Finding
