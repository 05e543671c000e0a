-- The proofs of `salvage`.
pub mod Emptied
pub mod Zeroed
pub mod Ends
