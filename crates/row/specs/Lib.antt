-- What the contracts of `row` cite. `Inner` is not needed to read a public promise.
pub mod Window
pub mod Samples
pub mod Blocks
pub mod Envelope
pub mod Inner
