-- How far a book is packed.
pub mod Laying
