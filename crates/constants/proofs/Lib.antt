-- Bits      the bit pattern of each constant
pub mod Bits
