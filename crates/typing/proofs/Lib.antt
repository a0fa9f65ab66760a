mod Examples
pub mod DenoterRows
mod NamedFields
mod FieldNames
pub mod Rows
pub mod Selectors
pub mod Written
mod SiteIds
mod WaitingRows
pub mod Ways
pub mod WalkedForms
pub mod WalkedBlocks
pub mod Stays
pub mod Collected
