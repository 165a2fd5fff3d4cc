-- What the contracts of `prepared` cite. Inner is not needed to read a public promise.
pub mod Sections
pub mod Powers
pub mod Left
pub mod Inner
