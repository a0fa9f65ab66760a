pub mod Faults
pub mod Follows
pub mod Known
pub mod Laws
pub mod Tables
