pub mod Ascending
pub mod Items
pub mod Listed
pub mod Ordered
