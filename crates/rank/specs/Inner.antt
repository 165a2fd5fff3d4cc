-- Not needed to read a public promise: what the functions that `percentile` is made of ensure. Ordinals, whole numbers
-- in the order of the values, and how many of them lie in a cell. Definitions only.
use Rattle.std.specs.Prelude.{ℕ, zero, suc, ◌+◌, ◌-◌, ◌*◌, ◌/◌, ◌^◌, ◌≤◌, ◌<◌, ◌≡◌, ◌⊎◌, cond, List, T, ltb, eqb, length, get_or, Float}
use Rattle.std.specs.Float.{nan, binary64}
use Rattle.std.specs.Float.Ieee.{is_nan, fits, to_bits, of_bits}
use Rattle.rank.specs.Order.{sorted}
use Rattle.lists.specs.Count.{count_to}

-- The ordinal of a bit pattern: from 2^63 up without the sign, and from there down with it. A NaN's is the largest.
abbrev pub ordinal_bits : ℕ → ℕ
ordinal_bits b = cond (ltb b (2 ^ 63)) (b + 2 ^ 63) (2 ^ 64 - 1 - b)

unfoldable pub ordinal_of : Float → ℕ
ordinal_of x = cond (is_nan x) (2 ^ 64 - 1) (ordinal_bits (to_bits binary64 x))

-- the value of an ordinal
unfoldable pub of_ordinal : ℕ → Float
of_ordinal k = cond (eqb k (2 ^ 64 - 1)) nan (of_bits binary64 (cond (ltb k (2 ^ 63)) (2 ^ 64 - 1 - k) (k - 2 ^ 63)))

-- an ordinal that some value has: a NaN's, or one from −∞'s to +∞'s
abbrev pub Ordinal : ℕ → Type 0
Ordinal k = (k ≡ 2 ^ 64 - 1) ⊎ ((0x000f_ffff_ffff_ffff ≤ k) × (k ≤ 0xfff0_0000_0000_0000))

abbrev pub ordinal_at : List Float → ℕ → ℕ
ordinal_at l i = ordinal_of (get_or l i nan)

-- Of the first n ordinals, how many lie in the cell v of width w, from v * w on, and how many below it
unfoldable pub cell : (ℕ → ℕ) → ℕ → ℕ → ℕ → ℕ
unfolding count_to
cell ordinal w v n = count_to (λ i. eqb (ordinal i / w) v) n

unfoldable pub below : (ℕ → ℕ) → ℕ → ℕ → ℕ → ℕ
unfolding count_to
below ordinal w v n = count_to (λ i. ltb (ordinal i / w) v) n

-- a histogram of the first n ordinals: the m cells of width w that the cell p of width w * m is made of
pub record Histogram (l : List Float) (w m p n : ℕ) (hist : List ℕ) : Type 0 where
  pub long : length hist ≡ 2048
  pub counts : (d : ℕ) → d < m → get_or hist d 0 ≡ cell (ordinal_at l) w (p * m + d) n

-- the first d numbers of a list, added up
unfoldable pub sum_to : List ℕ → ℕ → ℕ
sum_to l zero = 0
sum_to l (suc d) = sum_to l d + get_or l d 0

-- where the sum passes a rank, what is left of the rank there, and the number there
pub record Passed (l : List ℕ) (rank digit left count : ℕ) : Type 0 where
  pub sum : sum_to l digit + left ≡ rank
  pub left_lt : left < count
  pub here : count ≡ get_or l digit 0

-- one digit more of the ordinal at a rank, and the rank and the count in its cell of width w. p are the digits above
-- it.
pub record NextDigit (l : List Float) (w m p rank digit left count : ℕ) : Type 0 where
  pub under : below (ordinal_at l) w (p * m + digit) (length l) + left ≡ below (ordinal_at l) (w * m) p (length l) + rank
  pub inside : left < count
  pub all : count ≡ cell (ordinal_at l) w (p * m + digit) (length l)

-- the rank lies in the cell v of width w, and is `left` counted from the cell's first
pub record RankIn (l : List Float) (w rank v left : ℕ) : Type 0 where
  pub under : below (ordinal_at l) w v (length l) + left ≡ rank
  pub inside : left < cell (ordinal_at l) w v (length l)

-- the first n ordinals that lie in the cell v of width w are from lo to hi
pub record Between (l : List Float) (w v n lo hi : ℕ) : Type 0 where
  pub from : (i : ℕ) → i < n → ordinal_at l i / w ≡ v → lo ≤ ordinal_at l i
  pub to : (i : ℕ) → i < n → ordinal_at l i / w ≡ v → ordinal_at l i ≤ hi

-- the cell q of width 2^t has all the ordinals of the cell p of width 2^s, and none besides
pub record SameOrdinals (l : List Float) (s p t q : ℕ) : Type 0 where
  pub shorter : t ≤ s
  pub under : below (ordinal_at l) (2 ^ t) q (length l) ≡ below (ordinal_at l) (2 ^ s) p (length l)
  pub inside : cell (ordinal_at l) (2 ^ t) q (length l) ≡ cell (ordinal_at l) (2 ^ s) p (length l)

-- one of the ordinals, and it lies in the cell v of width w
pub record OrdinalIn (l : List Float) (w v k : ℕ) : Type 0 where
  pub one : 0 < cell (ordinal_at l) 1 k (length l)
  pub inside : k / w ≡ v

-- the ordinal of the value at a rank, and that value is an f64
pub record Selected (l : List Float) (rank k : ℕ) : Type 0 where
  pub same : k ≡ ordinal_of (get_or (sorted l) rank nan)
  pub held : T (fits binary64 (get_or (sorted l) rank nan))
