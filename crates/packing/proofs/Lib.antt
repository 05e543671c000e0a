-- Packing leaves the same book, packed once for all; the test of two images decides whether they hold the same book. Assumes nothing.
pub mod Laid
pub mod Moved
pub mod Sound
pub mod Looks
pub mod Kept
pub mod Twice
pub mod Answers
pub mod Decides
pub mod Accepted
