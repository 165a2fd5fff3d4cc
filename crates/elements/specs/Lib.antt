-- What the contracts of `elements` cite, each file named as its source; Times is cited by theorems alone. Inner is not
-- needed to read a public promise.
pub mod Element
pub mod Keying
pub mod Find
pub mod Times
pub mod Inner
