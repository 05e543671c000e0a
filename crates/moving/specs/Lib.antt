-- What the comparison asks of an image, and what it answers.
pub mod Fits
pub mod Differences
