-- What the contracts of `capi` cite, each file named as its source.
pub mod Calls
pub mod Clean
pub mod Counts
pub mod Hypothesis
pub mod Measures
pub mod Removal
pub mod Rows
pub mod Running
pub mod Version
