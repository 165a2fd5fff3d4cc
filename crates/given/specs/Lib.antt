-- What the contracts of `given` cite: each call in a file of its own.
pub mod Blocks
pub mod Residual
pub mod Evidence
pub mod Removal
