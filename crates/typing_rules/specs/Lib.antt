pub mod Checked
pub mod Typed
pub mod Denotations
pub mod Operators
pub mod Targets
