-- The proofs of `index`.
pub mod Mixing
pub mod Slots
