-- What the contracts of `float` cite; `Nearest` is what rounding means. `Inner` is not needed to read a public promise.
pub mod Ops
pub mod Compare
pub mod Size
pub mod Remainder
pub mod Whole
pub mod Single
pub mod Root
pub mod Nearest
pub mod Inner
