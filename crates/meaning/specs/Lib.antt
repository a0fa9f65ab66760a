pub mod Integers
pub mod Store
pub mod Counting
pub mod Effect
pub mod Meaning
pub mod Kinds
pub mod Laws
