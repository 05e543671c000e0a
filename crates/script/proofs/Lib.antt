-- The proofs of `script`.
pub mod Digits
pub mod Lines
pub mod Parts
pub mod Records
pub mod Callers
pub mod Runs
pub mod SessionRun
pub mod Examples
