-- What the contracts of `measure` cite; Agree, what the theorems on two runs do. Inner is not needed to read a public
-- promise.
pub mod Residual
pub mod Inner
pub mod Offset
pub mod Evidence
pub mod Hypothesis
pub mod Both
pub mod Agree
