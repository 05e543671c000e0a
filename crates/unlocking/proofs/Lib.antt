-- The proofs of `unlocking`.
pub mod Opens
pub mod Taken
pub mod Orders
pub mod Back
pub mod All
pub mod Tried
