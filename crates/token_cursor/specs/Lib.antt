pub mod Cursor
pub mod Kept
pub mod LeftOut
pub mod Level
pub mod ParseFault
pub mod Rows
