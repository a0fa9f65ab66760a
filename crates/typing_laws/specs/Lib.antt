pub mod Controls
pub mod Opened
pub mod Results
pub mod Lawful
