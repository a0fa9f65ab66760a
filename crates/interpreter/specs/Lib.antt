pub mod Size
pub mod Pending
