-- What the routine relies on. Assumes nothing.
pub mod Calling
