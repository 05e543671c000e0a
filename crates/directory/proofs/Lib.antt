-- The proofs of `directory`.
pub mod Blocks
pub mod Finding
pub mod Places
pub mod Looking
pub mod Runs
