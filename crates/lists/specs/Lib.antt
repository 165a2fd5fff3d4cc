-- Rows, which are functions of the index, and lists, which are what slices hold: the words that the rules above use.
pub mod Fill
pub mod Firsts
pub mod Every
pub mod Count
pub mod Those
pub mod Sums
pub mod Records
