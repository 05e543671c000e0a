-- The proofs of `filling`.
pub mod Book
pub mod Codes
pub mod Placed
pub mod Steps
pub mod Least
