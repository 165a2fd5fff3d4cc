-- 01's edge table, and the recordings that it speaks of.
pub mod Ones
pub mod Table
