pub mod So
