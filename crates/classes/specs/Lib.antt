-- What the contracts of `classes` cite. Inner is not needed to read a public promise.
pub mod Class
pub mod Classify
pub mod Inner
