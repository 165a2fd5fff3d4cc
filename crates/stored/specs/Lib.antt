-- What the contracts of `stored` cite.
pub mod Units
pub mod Kinds
pub mod Records
pub mod Same
pub mod Answers
pub mod Tally
pub mod Inner
