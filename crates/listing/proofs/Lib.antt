-- The proofs of `listing`.
pub mod Searches
pub mod Shown
