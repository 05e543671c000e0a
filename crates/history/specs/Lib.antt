pub mod History
pub mod Deeds
pub mod Held
pub mod Groups
pub mod Demands
pub mod Unlocks
pub mod Sizing
