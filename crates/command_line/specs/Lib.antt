pub mod Pcom
pub mod Pint
pub mod Words
