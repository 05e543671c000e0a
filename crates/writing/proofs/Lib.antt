-- The proofs of `writing`.
pub mod Entries
pub mod Releasing
