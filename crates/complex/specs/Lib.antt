-- What the contracts of `complex` and of the crates above cite.
pub mod Value
pub mod Rows
pub mod Units
