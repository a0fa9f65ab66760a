pub mod Strip
pub mod Places
pub mod Open
