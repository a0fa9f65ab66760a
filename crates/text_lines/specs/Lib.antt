pub mod Lines
pub mod Numerals
pub mod Words
pub mod Writing
