pub mod Addressed
pub mod Called
pub mod Used
pub mod Characters
pub mod Examples
mod ExamplesOfCalls
mod ExamplesOfInput
mod ExamplesOfRows
mod ExamplesOfSets
pub mod Asking
pub mod Reading
pub mod Steps
pub mod Obeying
pub mod Running
pub mod Finishing
pub mod Growing
mod Failing
pub mod Seen
pub mod Standing
pub mod Moving
