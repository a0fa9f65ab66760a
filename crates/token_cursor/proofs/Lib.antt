pub mod Ended
pub mod Keeping
pub mod Turns
