pub mod Ways
pub mod Steps
pub mod ConditionsOf
pub mod Turns
pub mod Elements
pub mod Meeting
pub mod Outside
pub mod ShorterWays
