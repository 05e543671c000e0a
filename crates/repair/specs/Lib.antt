pub mod Salvage
pub mod Mends
