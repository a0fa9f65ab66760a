mod Defined
mod HeadingForms
pub mod Kept
pub mod KeptBlocks
pub mod Opened
mod Parts
