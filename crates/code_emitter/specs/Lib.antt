pub mod Emitted
pub mod Pieces
pub mod Reaching
