-- Packing a book (T-12), and accepting a book moved by others (T-14).
pub mod Packed
pub mod Packs
pub mod Same
