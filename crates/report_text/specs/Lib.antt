pub mod Faults
pub mod Text
pub mod Messages
