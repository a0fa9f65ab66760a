pub mod AnyOf
pub mod Blocks
pub mod Insides
pub mod LoopNumbers
pub mod Looks
pub mod Measured
pub mod Quiet
pub mod Rows
