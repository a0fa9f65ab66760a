pub mod Growing
pub mod Counts
pub mod Laid
pub mod Elements
pub mod Fields
pub mod Once
pub mod Scalars
pub mod Strings
pub mod Longer
pub mod Built
pub mod Parts
mod Examples
