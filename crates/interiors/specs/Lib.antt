-- What the contracts of `interiors` cite, in 01's order, each file named as its source. Inner is not needed to read a
-- public promise.
pub mod Interior
pub mod Line
pub mod Slope
pub mod Gain
pub mod Inner
