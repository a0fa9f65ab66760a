pub mod Calls
mod Examples
pub mod Filled
pub mod Peeked
pub mod Reading
pub mod Taken
pub mod Written
