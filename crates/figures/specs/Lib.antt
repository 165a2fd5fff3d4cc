-- What the contracts of `figures` cite, each file named as its source.
pub mod Calls
pub mod Clean
pub mod Flag
pub mod Measures
pub mod Optional
pub mod Places
pub mod Hypothesis
pub mod Rows
pub mod Running
