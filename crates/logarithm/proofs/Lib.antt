-- Laws behind the proof of `log10`, by subject.

-- Octaves     a number above 0 is m·2^e with 0.75 ≤ m < 1.5: `split`; its bit pattern holds m and e: `by_bits`
-- Splits      no other m and e are so: `split_one`; so 01's words fix log10: `log_of_split`
-- Logs        the ways out of `log10`: `log_zero`, `log_none`, `log_infinite`, `log_normal`, `log_subnormal`
pub mod Octaves
pub mod Splits
pub mod Logs
