pub mod Blocks
pub mod Emitted
pub mod Gathering
pub mod Reaching
pub mod Records
pub mod Statements
pub mod Walking
