pub mod Tests
pub mod Lists
pub mod Bytes
pub mod Tables
pub mod Bits
pub mod Hints
