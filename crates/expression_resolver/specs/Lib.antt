pub mod Accesses
pub mod Made
pub mod Values
