-- The proofs of `records`.
pub mod Reading
pub mod Writing
pub mod Marking
pub mod Testing
