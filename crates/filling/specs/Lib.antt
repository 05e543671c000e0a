pub mod Book
pub mod Least
