-- What the contract of `percentile` (src/select.rt) cites. `Inner` is not needed to read a public promise.
pub mod Order
pub mod Select
pub mod Inner
