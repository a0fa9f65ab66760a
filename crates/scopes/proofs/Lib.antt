mod Inserts
pub mod Known
