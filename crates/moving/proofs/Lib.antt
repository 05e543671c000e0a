-- What the comparison relies on. Assumes nothing.
pub mod Fits
