-- The proofs of `calls`.
pub mod Passing
pub mod Serving
pub mod Within
pub mod Fives
pub mod Admitted
