-- The proofs of `locking`.
pub mod Locking
