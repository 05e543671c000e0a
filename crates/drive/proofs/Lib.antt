-- The proofs of `drive`.
pub mod Walks
pub mod Marks
pub mod Begun
pub mod Looking
pub mod Taken
