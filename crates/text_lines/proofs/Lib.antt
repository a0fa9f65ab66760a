pub mod Bytes
pub mod Digits
pub mod Finished
pub mod Parting
pub mod TextLines
