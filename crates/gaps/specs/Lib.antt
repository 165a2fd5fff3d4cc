-- What the contracts of `gaps` cite; Pushed, the Rust's own loop over the gap blocks, is cited by theorems alone. Inner
-- is not needed to read a public promise.
pub mod Reference
pub mod Pairs
pub mod Pushed
pub mod Inner
