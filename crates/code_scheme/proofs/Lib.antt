pub mod Arms
pub mod Bounds
pub mod Depths
mod Examples
pub mod Framed
pub mod Moved
pub mod Pieces
pub mod Routines
