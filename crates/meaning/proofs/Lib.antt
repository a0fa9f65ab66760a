pub mod Depths
mod Examples
mod FinishedTurns
pub mod Expressions
mod LeftToRight
pub mod KindsTypes
pub mod Loops
pub mod Pieces
pub mod Replies
pub mod Returns
mod Routines
pub mod Turns
pub mod Used
pub mod Walks
