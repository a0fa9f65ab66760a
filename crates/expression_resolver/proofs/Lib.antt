mod Actuals
mod Calls
mod Chains
pub mod Fitting
pub mod HeldForms
pub mod KeptKinds
mod MemberRows
mod Named
mod Only
pub mod Operands
pub mod PassedForms
mod Results
mod Scalars
pub mod Selecting
