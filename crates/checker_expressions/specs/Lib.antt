pub mod Rules
pub mod View
pub mod Visits
pub mod Walk
