pub mod Forms
pub mod Types
pub mod Components
pub mod Kept
pub mod Parts
pub mod Laws
