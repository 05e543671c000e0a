-- What is laid down step by step is the packed book. Assumes nothing.
pub mod Laying
