-- What the contracts of `format` cite.
pub mod Bytes
pub mod Growing
pub mod Input
pub mod Text
