-- Numbers in base ten and lines of a report as bytes in ASCII (01, part 8), and text that is put into a lent buffer.
-- `codes` gives a text as bytes: the code of each of its characters. Definitions only.
use Rattle.std.specs.Prelude.{ℕ, zero, suc, ◌+◌, ◌-◌, ◌*◌, ◌/◌, ◌%◌, ◌≡◌, cond, List, [], ◌∷◌, ◌++◌, ltb, length, take, drop, codes}

-- ---- base ten

-- the byte of a digit: "0" is 48
abbrev pub digit_byte : ℕ → ℕ
digit_byte d = 48 + d

-- The digits of n in base ten, the most significant first, with no 0 in front of them: the last of them is n % 10, and
-- those before it are the digits of n / 10, of which there are none where n is below 10. The first number is how many
-- digits there may be.
unfoldable pub digits_in : ℕ → ℕ → List ℕ
digits_in zero n = []
digits_in (suc most) n = cond (ltb n 10) [] (digits_in most (n / 10)) ++ (digit_byte (n % 10) ∷ [])

-- Every number of 64 bits has at most 20.
unfoldable pub decimal : ℕ → List ℕ
decimal n = digits_in 20 n

-- reading back: the number that digits stand for, behind those already read
abbrev pub read_on : ℕ → List ℕ → ℕ
read_on n [] = n
read_on n (b ∷ bs) = read_on (10 * n + (b - digit_byte 0)) bs

abbrev pub read_back : List ℕ → ℕ
read_back = read_on 0

-- ---- a line

-- numbers, each after a blank
unfoldable pub spaced : List ℕ → List ℕ
spaced [] = []
spaced (n ∷ ns) = codes " " ++ (decimal n ++ spaced ns)

-- "(size 300 8 37)", with its line end: a bracket and a word, numbers, a bracket
unfoldable pub line : List ℕ → List ℕ → List ℕ
line word numbers = word ++ (spaced numbers ++ codes ")\n")

-- ---- a lent buffer

-- Text goes into a buffer at a position: the buffer is as it was before that position and behind the text, and r is the
-- position behind the text.
pub record Appended (before : List ℕ) (at : ℕ) (text after : List ℕ) (r : ℕ) : Type 0 where
  pub next : r ≡ at + length text
  pub holds : after ≡ take at before ++ text ++ drop (at + length text) before
