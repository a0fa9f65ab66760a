pub mod Built
pub mod Levels
pub mod Members
pub mod Selecting
