-- What the contracts of `fits` cite, in 01's order, each file named as its source. Inner is not needed to read a public
-- promise.
pub mod Fit
pub mod List
pub mod Carrier
pub mod Estimate
pub mod Inner
