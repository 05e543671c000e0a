-- The proofs of `engine`.
pub mod One
pub mod Told
