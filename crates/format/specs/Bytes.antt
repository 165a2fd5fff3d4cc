-- A recording as bytes (01, part 8 and question 2): little-endian f32 pairs. Definitions only.
use Rattle.std.specs.Prelude.{ℕ, ◌+◌, ◌*◌, ◌%◌, ◌^◌, leb, eqb, Bool, ◌&&◌, List, get_or, Float}
use Rattle.std.specs.Float.{binary32}
use Rattle.std.specs.Float.Ieee.{of_bits}

-- question 2, in the program: bytes a multiple of 8, at most 16,384
unfoldable pub bytes_ok : ℕ → Bool
bytes_ok n = eqb (n % 8) 0 && leb n 16384

-- how many bytes are read at most: one more than that, so that too many are noticed
abbrev pub INPUT : ℕ
INPUT = 16384 + 1

-- the bit pattern that part i has in the bytes: four of them, the least first
abbrev pub pattern_at : List ℕ → ℕ → ℕ
pattern_at bytes i =
    get_or bytes (4 * i) 0 + 2 ^ 8 * get_or bytes (4 * i + 1) 0 + 2 ^ 16 * get_or bytes (4 * i + 2) 0 + 2 ^ 24 * get_or bytes (4 * i + 3) 0

-- part i, real or imaginary: the f32 of that pattern. Every NaN's pattern is the one NaN.
abbrev pub part_at : List ℕ → ℕ → Float
part_at bytes i = of_bits binary32 (pattern_at bytes i)
