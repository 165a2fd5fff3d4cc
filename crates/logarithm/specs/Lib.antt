-- What the contracts of `logarithm` cite. `Inner` is not needed to read a public promise.
pub mod Logarithm
pub mod Inner
