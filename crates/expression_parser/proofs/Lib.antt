pub mod Built
pub mod Chains
pub mod Members
pub mod Named
pub mod Parentheses
pub mod Selectors
