-- What salvage leaves: a sound image, changed in no byte but those that had to; and what its report says. Assumes nothing.
pub mod Zeros
pub mod Changes
pub mod Emptying
pub mod Cleaning
pub mod Unchanged
pub mod Mends
pub mod Report
pub mod Outcome
pub mod InBytes
pub mod Exactly
