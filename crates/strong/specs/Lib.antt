-- What the contracts of `strong` cite: each call in a file of its own.
pub mod Amplitude
pub mod Find
pub mod Fit
pub mod Estimate
