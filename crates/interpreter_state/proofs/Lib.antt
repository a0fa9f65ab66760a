mod FoundArms
mod Inputs
pub mod Members
mod RowOrder
pub mod Sees
