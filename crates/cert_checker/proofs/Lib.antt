pub mod EffectsParameters
pub mod OpenedBehind
pub mod EffectsStatements
pub mod EffectsRoutines
pub mod PassedLeft
pub mod SparedText
pub mod SparedCalls
pub mod HiddenControls
pub mod Entered
pub mod Keeping
pub mod Rounds
pub mod SoundCase
pub mod Heads
pub mod Controls
pub mod Changes
pub mod SoundStores
pub mod Targets
pub mod Written
pub mod SoundAssignments
pub mod SoundCopies
pub mod SoundReads
pub mod SoundLoops
pub mod Turned
pub mod SoundFor
pub mod SoundWith
pub mod SoundForms
pub mod SoundBlocks
pub mod ClaimsKnown
pub mod SoundProgram
pub mod Huge
pub mod PlainLists
pub mod PlainExpressions
pub mod PlainStatements
pub mod Counted
pub mod Steps
pub mod Among
pub mod StepsWays
pub mod StoresMade
pub mod Assigned
pub mod LoopsEntered
pub mod WaysTested
pub mod StepsCase
pub mod StepsLayers
pub mod StepsBlocks
pub mod StepsProgram
mod SoundSteps
mod FinishedTurns
mod Integers
mod AssignedValues
mod SoundConditions
