-- Counting: cells of ordinals that lie side by side add up (`below_next`, `below_split`), a histogram takes up one
-- ordinal more (`histogram_turn`) and sums to what lies below a digit (`histogram_sum`). Assumes nothing.
use mathlib.Core.Path.{◌≡◌, refl, sym, ap, ◌∙◌, subst}
use mathlib.Core.Logic.{inl, inr}
use mathlib.Core.Bool.{Bool, true, false}
use mathlib.Core.List.{List, [], ◌∷◌, map}
use Prim.Native.Nat.{ℕ, zero, suc, ◌+◌, ◌*◌, ◌/◌, ◌%◌, ◌^◌, ◌≤◌, ◌<◌, zero-le}
use native.Mathlib.Nat.{lt-div-mul-add, le_refl, le_of_lt, le_of_suc-le-suc, eq-or-lt_of_le, add-mul, one-mul, div-eq_of_lt, div-mul-le_self, div-le_self, add-zero, add_assoc, div-one, div-div-eq-div-mul, div-lt_iff_lt-mul}
use native.Mathlib.Numerals.{add-one}
use native.Mathlib.Decide.{dec_lt}
use native.Mathlib.Omega.{arith}
use borrow.Author.Tests.{lt-ltb, le-ltb, eq-eqb, eqb-true, ltb-true}
use lib.Pow.{pow-add, pow_mono}
use lib.Arith.{le-zero}
use Rattle.std.proofs.lemmas.Bool.Decides.{nat_tests}
use lib.Dec.{T, ltb, eqb}
use lib.ListN.{length, get_or, set, length-set, replicate, length-replicate, get_or-replicate}
use lib.Seq.{get_or-set_same, get_or-set_other}
use lib.Ieee.{Float, nan, binary64, fits}
use mir.Val.{bool_byte}
use Rattle.std.proofs.Common.{Option, Some, None}
use Rattle.std.specs.List.{find}
use Rattle.std.specs.Option.{option_map}
use Rattle.rank.proofs.Ordinals.{ordinal_lt}
use Rattle.lists.specs.Count.{count_to}
use Rattle.lists.proofs.Count.{bit, count_cong, count_le, count_most, count_apart, count_some}
use Rattle.rank.specs.Inner.{ordinal_of, ordinal_at, cell, below, Histogram, sum_to, Passed, NextDigit, RankIn, OrdinalIn}

-- ---- counting
byte_bit : (b : Bool) → bool_byte b ≡ bit b
byte_bit true = refl
byte_bit false = refl

-- ---- cells
module _ (ordinal : ℕ → ℕ) (n : ℕ) where
  pub below_next : (w v : ℕ) → below ordinal w (v + 1) n ≡ below ordinal w v n + cell ordinal w v n
  unfolding below cell
  below_next w v = count_apart (λ i. ltb (ordinal i / w) v) (λ i. eqb (ordinal i / w) v) (λ i. ltb (ordinal i / w) (v + 1)) n (λ (i : ℕ). at (ordinal i / w) v)
    where
      at : (x v : ℕ) → bit (ltb x (v + 1)) ≡ bit (ltb x v) + bit (eqb x v)
      at x v = grind (arith, nat_tests)

  -- a cell of width w * c begins where the first of the cells of width w in it does
  pub below_split : (w c v : ℕ) → 0 < c → below ordinal (w * c) v n ≡ below ordinal w (v * c) n
  unfolding below
  below_split w c v C = count_cong (λ i. ltb (ordinal i / (w * c)) v) (λ i. ltb (ordinal i / w) (v * c)) n (λ (i : ℕ) (h : i < n). ap (λ (x : ℕ). ltb x v) (sym (div-div-eq-div-mul (ordinal i) w c)) ∙ at (ordinal i / w))
    where
      at : (x : ℕ) → ltb (x / c) v ≡ ltb x (v * c)
      at x = let e = div-lt_iff_lt-mul {k = c} {x = x} {y = v} C in grind (arith, nat_tests)

  -- the cells of width w from v * c on, up to d of them
  pub cell_split : (w c v : ℕ) → 0 < c → below ordinal w (v * c) n + cell ordinal (w * c) v n ≡ below ordinal w ((v + 1) * c) n
  cell_split w c v C = rw (← below_split w c v C, ← below_split w c (v + 1) C) (sym (below_next (w * c) v))

-- ---- sums of a histogram
module _ {l : List Float} {w m p n : ℕ} {hist : List ℕ} (e : Histogram l w m p n hist) where
  pub histogram_sum : (d : ℕ) → d ≤ m → below (ordinal_at l) w (p * m) n + sum_to hist d ≡ below (ordinal_at l) w (p * m + d) n
  unfolding sum_to
  histogram_sum zero h = rw (add-zero (p * m), add-zero)
  histogram_sum (suc d) h =
      let more : p * m + suc d ≡ p * m + d + 1 = omega arith in
      rw (more, below_next (ordinal_at l) n w (p * m + d), ← histogram_sum d (omega arith), e.counts d h, add_assoc)

  -- the whole histogram holds the cell that it divides
  histogram_total : 0 < m → sum_to hist m ≡ cell (ordinal_at l) (w * m) p n
  histogram_total M =
      let all : p * m + m ≡ (p + 1) * m = omega arith in
      omega (arith, histogram_sum m (le_refl m), ap (λ (z : ℕ). below (ordinal_at l) w z n) all, cell_split (ordinal_at l) n w m p M)

-- ---- one ordinal more
cell_turn : (ordinal : ℕ → ℕ) (w v n : ℕ) → cell ordinal w v (n + 1) ≡ cell ordinal w v n + bit (eqb (ordinal n / w) v)
unfolding cell count_to
cell_turn ordinal w v n = rw (add-one n)

-- a number and the digit that it ends with
digit : (m h p d : ℕ) → d < m → h % m ≡ d → eqb h (p * m + d) ≡ eqb (h / m) p
digit m h p d b e = grind (arith, nat_tests)

other : (m h p d : ℕ) → d < m → (h % m ≡ d → ⊥) → eqb h (p * m + d) ≡ false
other m h p d b n = grind (arith, nat_tests)

pub histogram_turn : {l : List Float} {w m p n k x : ℕ} {hist : List ℕ} → m ≤ 2048 → Histogram l w m p n hist → k ≡ ordinal_at l n → x ≡ k / w % m →
    Histogram l w m p (n + 1) (set hist x (get_or hist x 0 + bool_byte (eqb (k / w / m) p)))
histogram_turn {l} {w} {m} {p} {n} {k} {x} {hist} M e is at = record { long = simp length-set e.long; counts = λ (d : ℕ) (b : d < m). go d b (dec_lt d x) (dec_lt x d) }
  where
    new : List ℕ
    new = set hist x (get_or hist x 0 + bool_byte (eqb (k / w / m) p))

    away : (d : ℕ) → d < m → (d ≡ x → ⊥) → get_or new d 0 ≡ cell (ordinal_at l) w (p * m + d) (n + 1)
    away d b ne =
        get_or-set_other hist x d _ 0 ne
        ∙ e.counts d b
        ∙ sym (rw (cell_turn (ordinal_at l) w (p * m + d) n, ← is, other m (k / w) p d b (λ q. ne (sym q ∙ sym at)), add-zero))

    go : (d : ℕ) → d < m → Dec (d < x) → Dec (x < d) → get_or new d 0 ≡ cell (ordinal_at l) w (p * m + d) (n + 1)
    go d b (yes a) c = away d b (omega arith)
    go d b (no a) (yes c) = away d b (omega arith)
    go d b (no a) (no c) =
        let s : x ≡ d = omega arith in
        let r : d < length hist = omega (arith, e.long) in
        rw (s, get_or-set_same hist d _ 0 r, byte_bit, cell_turn (ordinal_at l) w (p * m + d) n, ← is, digit m (k / w) p d b (sym at ∙ s), e.counts d b)

-- no place of a histogram runs over
pub histogram_room : {l : List Float} {w m p n : ℕ} {hist : List ℕ} → Histogram l w m p n hist → n < 2097152 → (d : ℕ) → d < m → (b : Bool) → get_or hist d 0 + bool_byte b < 0x1_0000_0000
unfolding cell
histogram_room {l} {w} {m} {p} {n} {hist} e small d h b =
    let t : get_or hist d 0 ≤ n = rw (e.counts d h) (count_most (λ i. eqb (ordinal_at l i / w) (p * m + d)) n) in
    omega (arith, one b)
  where
    one : (b : Bool) → bool_byte b ≤ 1
    one b = grind (arith, nat_tests)

-- a digit has a place in the histogram
pub power_most : (b : ℕ) → b ≤ 11 → 2 ^ b ≤ 2048
power_most b h = pow_mono {i = b} {j = 11} h

-- ---- walking along a histogram
pub sum_turn : (l : List ℕ) (d : ℕ) → sum_to l (d + 1) ≡ sum_to l d + get_or l d 0
unfolding sum_to
sum_turn l d = rw (add-one d)

pub sum_none : (l : List ℕ) → sum_to l 0 ≡ 0
unfolding sum_to
sum_none l = refl

sum_grows : (l : List ℕ) (c d : ℕ) → c ≤ d → sum_to l c ≤ sum_to l d
unfolding sum_to
sum_grows l c zero h = rw (le-zero h) (le_refl 0)
sum_grows l c (suc d) h = elim (eq-or-lt_of_le h) [ inl e ↦ rw e (le_refl (sum_to l (suc d))) | inr k ↦ omega (arith, sum_grows l c d (le_of_suc-le-suc k)) ]

-- ---- a pass, from an empty histogram to the digit
pub histogram_none : (l : List Float) (w m p : ℕ) → m ≤ 2048 → Histogram l w m p 0 (replicate 2048 0)
unfolding cell count_to
histogram_none l w m p M = record { long = length-replicate {A = ℕ} 2048 0; counts = λ (d : ℕ) (h : d < m). get_or-replicate {A = ℕ} 2048 d 0 0 (omega arith) }

pub histogram_holds : {l : List Float} {w m p n : ℕ} {hist : List ℕ} {rank : ℕ} → 0 < m → m ≤ 2048 → Histogram l w m p n hist → rank < cell (ordinal_at l) (w * m) p n → rank < sum_to hist 2048
histogram_holds {m = m} {hist = hist} P M e h = omega (arith, histogram_total e P, sum_grows hist m 2048 M)

pub next_digit : {l : List Float} {w m p : ℕ} {hist : List ℕ} {rank digit left count : ℕ} → 0 < m → Histogram l w m p (length l) hist → rank < cell (ordinal_at l) (w * m) p (length l) → Passed hist rank digit left count → NextDigit l w m p rank digit left count
next_digit {l} {w} {m} {p} {hist} {rank} {digit} {left} {count} P e r h =
    let t = histogram_total e P in
    let d : digit < m = elim (dec_lt digit m) [ yes d ↦ d | no d ↦ let g = sum_grows hist m digit (omega arith) in absurd (omega (arith, h.sum)) ] in
    record {
      under = omega (arith, histogram_sum e digit (le_of_lt d), h.sum, below_split (ordinal_at l) (length l) w m p P);
      inside = h.left_lt;
      all = h.here ∙ e.counts digit d;
    }

-- ---- from pass to pass
count_none : (f : ℕ → Bool) (n : ℕ) → ((i : ℕ) → i < n → f i ≡ false) → count_to f n ≡ 0
unfolding count_to
count_none f zero e = refl
count_none f (suc n) e = rw (count_none f n (λ (i : ℕ) (h : i < n). e i (omega arith)), e n (omega arith))

count_all : (f : ℕ → Bool) (n : ℕ) → ((i : ℕ) → i < n → f i ≡ true) → count_to f n ≡ n
unfolding count_to
count_all f zero e = refl
count_all f (suc n) e = rw (count_all f n (λ (i : ℕ) (h : i < n). e i (omega arith)), e n (omega arith)) (add-one n)

-- in a list of f64s, as a slice holds
module _ (l : List Float) (held : (i : ℕ) → T (fits binary64 (get_or l i nan))) where
  small : (i : ℕ) → ordinal_at l i < 2 ^ 64
  small i = ordinal_lt (get_or l i nan) (held i)

  -- at the start all ordinals are in one cell
  pub within_all : {rank : ℕ} → rank < length l → RankIn l (2 ^ 64) rank 0 rank
  unfolding below cell
  within_all h =
      let a = count_none (λ i. ltb (ordinal_at l i / 2 ^ 64) 0) (length l) (λ (i : ℕ) (_ : i < length l). le-ltb (ordinal_at l i / 2 ^ 64) 0 zero-le) in
      let b = count_all (λ i. eqb (ordinal_at l i / 2 ^ 64) 0) (length l) (λ (i : ℕ) (_ : i < length l). eq-eqb (ordinal_at l i / 2 ^ 64) 0 (div-eq_of_lt (small i))) in
      record { under = omega (arith, a); inside = omega (arith, b) }

  cell_room : (w v n : ℕ) → 0 < cell (ordinal_at l) w v n → v < 2 ^ 64
  unfolding cell
  cell_room w v n h =
      let s = count_some (λ i. eqb (ordinal_at l i / w) v) n h in
      let e : ordinal_at l s.0 / w ≡ v = eqb-true (ordinal_at l s.0 / w) v s.2 in
      omega (arith, small s.0, div-le_self (ordinal_at l s.0) w)

  pub digit_room : {w m p rank digit left count : ℕ} → NextDigit l w m p rank digit left count → p * m + digit < 2 ^ 64
  digit_room {w} {m} {p} {rank} {digit} n = cell_room w (p * m + digit) (length l) (omega (arith, n.all, n.inside))

-- the cell by its next digit
pub within_parts : {l : List Float} {rank k left : ℕ} (s t b : ℕ) → t + b ≡ s → RankIn l (2 ^ s) rank k left → RankIn l (2 ^ t * 2 ^ b) rank k left
within_parts s t b e h = rw (← pow-add 2 t b, e) h

pub within_turn : {l : List Float} {w m rank k left digit left' count : ℕ} → RankIn l (w * m) rank k left → NextDigit l w m k left digit left' count → RankIn l w rank (k * m + digit) left'
within_turn h n = record { under = n.under ∙ h.under; inside = rw (← n.all) n.inside }

-- ---- the search for the one ordinal of a cell
count_here : (f : ℕ → Bool) (i n : ℕ) → i < n → f i ≡ true → 0 < count_to f n
unfolding count_to
count_here f i zero h e = absurd (omega arith)
count_here f i (suc n) h e = elim (eq-or-lt_of_le (le_of_suc-le-suc h)) [ inl s ↦ subst (λ (z : Bool). 0 < count_to f n + bit z) (sym (ap f (sym s) ∙ e)) (omega arith) | inr b ↦ omega (arith, count_here f i n b e) ]

pub ordinal_in : (l : List Float) (w v i k : ℕ) → i < length l → k ≡ ordinal_at l i → k / w ≡ v → OrdinalIn l w v k
unfolding cell
ordinal_in l w v i k h e f = record { one = count_here (λ j. eqb (ordinal_at l j / 1) k) i (length l) h (eq-eqb (ordinal_at l i / 1) k (div-one (ordinal_at l i) ∙ sym e)); inside = f }

-- along the list and by its indices
pub count_front : (f : ℕ → Bool) (n : ℕ) → count_to f (suc n) ≡ bit (f 0) + count_to (λ i. f (suc i)) n
unfolding count_to
count_front f zero = omega arith
count_front f (suc n) = ap (λ (z : ℕ). z + bit (f (suc n))) (count_front f n) ∙ omega arith

-- a list's first ordinal that passes a test
abbrev Found : (ℕ → Bool) → List Float → Type 0
Found test l = (i : ℕ) × (i < length l) × (test (ordinal_at l i) ≡ true) × (find test (map ordinal_of l) ≡ Some (ordinal_at l i))

-- where a test counts some of the ordinals, it finds one of them
found_at : (test : ℕ → Bool) (l : List Float) → 0 < count_to (λ i. test (ordinal_at l i)) (length l) → Found test l
unfolding count_to
found_at test [] h = absurd (omega arith)
found_at test (x ∷ xs) h = go (test (ordinal_of x)) refl (found_at test xs) (rw (count_front (λ i. test (ordinal_at (x ∷ xs) i)) (length xs)) at h)
  where
    later : test (ordinal_of x) ≡ false → Found test xs → Found test (x ∷ xs)
    later e w = (suc w.0, omega (arith, w.1), w.2, rw e w.3)

    go : (b : Bool) → test (ordinal_of x) ≡ b → (0 < count_to (λ i. test (ordinal_at xs i)) (length xs) → Found test xs) → 0 < bit (test (ordinal_of x)) + count_to (λ i. test (ordinal_at xs i)) (length xs) → Found test (x ∷ xs)
    go true e rest h = (0, omega arith, e, rw e)
    go false e rest h = later e (rest (omega (arith, rw e at h)))

pub found : (l : List Float) (w v : ℕ) (r : Option ℕ) → option_map (λ k. k) r ≡ find (λ k. eqb (k / w) v) (map ordinal_of l) → 0 < cell (ordinal_at l) w v (length l) → (k : ℕ) × (r ≡ Some k) × OrdinalIn l w v k
unfolding cell
found l w v r e h =
    let s = found_at (λ k. eqb (k / w) v) l h in
    (ordinal_at l s.0, same r (e ∙ s.3), ordinal_in l w v s.0 (ordinal_at l s.0) s.1 refl (eqb-true (ordinal_at l s.0 / w) v s.2))
  where
    same : (r : Option ℕ) {k : ℕ} → option_map (λ k. k) r ≡ Some k → r ≡ Some k
    same None e = e
    same (Some x) e = e

-- where one ordinal is left in a cell, it is the one at the rank
pub within_one : {l : List Float} {w rank v left k : ℕ} → 0 < w → RankIn l w rank v left → cell (ordinal_at l) w v (length l) ≡ 1 → OrdinalIn l w v k → RankIn l 1 rank k left
unfolding below
within_one {l} {w} {rank} {v} {left} {k} W h o f =
    let a : below (ordinal_at l) w v (length l) ≤ below (ordinal_at l) 1 k (length l) =
    count_le (λ i. ltb (ordinal_at l i / w) v) (λ i. ltb (ordinal_at l i / 1) k) (length l) (λ (i : ℕ) (_ : i < length l) (e : ltb (ordinal_at l i / w) v ≡ true). lt-ltb (ordinal_at l i / 1) k (first (ordinal_at l i) (ltb-true (ordinal_at l i / w) v e))) in
    let b : below (ordinal_at l) 1 (k + 1) (length l) ≤ below (ordinal_at l) w (v + 1) (length l) =
    count_le (λ i. ltb (ordinal_at l i / 1) (k + 1)) (λ i. ltb (ordinal_at l i / w) (v + 1)) (length l) (λ (i : ℕ) (_ : i < length l) (e : ltb (ordinal_at l i / 1) (k + 1) ≡ true). lt-ltb (ordinal_at l i / w) (v + 1) (last (ordinal_at l i) (ltb-true (ordinal_at l i / 1) (k + 1) e))) in
    let c = below_next (ordinal_at l) (length l) 1 k in
    let d = below_next (ordinal_at l) (length l) w v in
    record { under = omega (arith, h.under, f.one); inside = omega (arith, h.inside, f.one) }
  where
    first : (x : ℕ) → x / w < v → x / 1 < k
    first x h = omega (arith, div-one x, (div-lt_iff_lt-mul {k = w} {x = x} {y = v} W).0 h, div-mul-le_self k w, ap (λ (z : ℕ). z * w) f.inside)

    last : (x : ℕ) → x / 1 < k + 1 → x / w < v + 1
    last x h =
        (div-lt_iff_lt-mul {k = w} {x = x} {y = v + 1} W).1
        (omega (arith, div-one x, lt-div-mul-add {a = k} {b = w} W, ap (λ (z : ℕ). z * w) f.inside, add-mul v 1 w, one-mul w))
