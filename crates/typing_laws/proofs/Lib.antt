pub mod Reached
pub mod WholeRanges
pub mod Tables
pub mod Sound
pub mod Constants
pub mod Covers
mod Owned
mod Kept
mod Spared
mod Opened
mod OwnBlocks
pub mod Sparing
pub mod Beginnings
pub mod Unthreatened
pub mod Grown
mod Numbers
mod Went
mod Assigned
pub mod Steps
pub mod Strings
mod Copies
pub mod Leading
pub mod Accesses
pub mod Calls
pub mod Expressions
pub mod Operators
pub mod EveryExpression
pub mod Targets
mod Opening
pub mod Statements
mod Waiting
mod Ready
mod Keeping
mod Placed
pub mod Declarations
pub mod Headings
pub mod Built
pub mod Routines
pub mod Bodies
pub mod Blocks
mod Ordered
mod AtPlaces
pub mod Outlines
pub mod Programs
mod There
pub mod Trees
