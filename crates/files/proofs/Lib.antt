-- The proofs of `files`.
pub mod Opening
pub mod Making
pub mod Removing
pub mod Measured
