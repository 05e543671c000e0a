-- The proofs of `several`.
pub mod ReadTurns
pub mod WriteTurns
