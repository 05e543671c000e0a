-- The proofs of `locklist`.
pub mod Packs
pub mod Places
pub mod Starts
