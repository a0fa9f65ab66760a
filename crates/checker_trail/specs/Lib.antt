pub mod Trail
pub mod Meets
pub mod Shorter
