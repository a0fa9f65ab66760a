pub mod Calls
pub mod Code
pub mod Depth
pub mod Frames
pub mod Large
pub mod Need
pub mod Scopes
pub mod Sizes
