pub mod Parts
pub mod Known
