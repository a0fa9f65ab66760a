pub mod LexFault
pub mod Piece
pub mod Shape
pub mod Spelling
pub mod Tokens
