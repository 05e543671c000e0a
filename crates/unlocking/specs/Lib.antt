pub mod Unlocks
pub mod Wrong
