-- The proofs of `words`.
pub mod Tests
pub mod Lists
pub mod Bytes
pub mod AreBytes
pub mod Tables
pub mod Counts
pub mod Passing
pub mod Tallies
pub mod Sums
pub mod Sets
pub mod Items
pub mod Bitwise
pub mod Spelled
pub mod Hints
pub mod Joined
pub mod Greatest
pub mod Made
