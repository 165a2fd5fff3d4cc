-- Recordings of samples 0 and (1, 0) at carrier 0. Nothing is turned there, so that they keep their numbers through
-- `derotated`, and at a step of 1 through `block_means` and the running sum: `derot_ones`, `row_ones`. Assumes nothing.
use Prim.Native.Nat.{ℕ, zero, suc, ◌+◌, ◌-◌, ◌*◌, ◌^◌, ◌≤◌, ◌<◌, min}
use native.Mathlib.Nat.{eq-or-lt_of_le, le_of_suc-le-suc, not-suc-le-zero}
use native.Mathlib.Omega.{arith}
use mathlib.Core.Path.{◌≡◌, refl, sym, ap, ◌∙◌}
use mathlib.Core.Logic.{⊎_elim}
use mathlib.Core.Bool.{Bool, true, false, cond}
use mathlib.Core.List.{List, [], ◌∷◌, ◌++◌}
use lib.Dec.{leb}
use lib.ListN.{length, get_or, length-append, get_or-append}
use lib.Seq.{get_or-append-add}
use lib.Ieee.{Float, nan, binary64, add, sub, mul, div, neg, of_int, of_bits, round}
use borrow.Author.Tests.{leb-true, leb-false}
use Rattle.float.specs.Ops.{◌⊕◌, ◌⊖◌, of, eight, fraction}
use Rattle.float.specs.Root.{sqrt_of}
use Rattle.float.proofs.Counts.{whole_add, whole_sub}
use Rattle.complex.specs.declared.value.Complex.{Complex}
use Rattle.complex.specs.Value.{c_new, c_zero, c_add, c_sub, c_mul, c_conj, c_div, c_norm}
use Rattle.complex.specs.Rows.{z_at, c_sum}
use Rattle.row.specs.Blocks.{rotor_of, derot, mean_from, block_mean}
use Rattle.row.specs.Envelope.{running_sum, amplitude}
use Rattle.row.proofs.Unturned.{rotor_unturned}
use Rattle.elements.proofs.KeyDowns.{either}
use Rattle.edge_table.specs.Ones.{is_one, ones_of}

-- a whole number as a complex one
abbrev pub real : ℕ → Complex
real n = c_new (of n) (of 0)

-- ---- facts of few numbers, computed at each
at_two : (P : ℕ → Type 0) → P 0 → P 1 → (m : ℕ) → m ≤ 1 → P m
at_two P p0 p1 zero h = p0
at_two P p0 p1 (suc zero) h = p1
at_two P p0 p1 (suc (suc m)) h = absurd (omega arith)

pub at_nine : (P : ℕ → Type 0) → P 0 → P 1 → P 2 → P 3 → P 4 → P 5 → P 6 → P 7 → P 8 → (m : ℕ) → m ≤ 8 → P m
at_nine P p0 p1 p2 p3 p4 p5 p6 p7 p8 zero h = p0
at_nine P p0 p1 p2 p3 p4 p5 p6 p7 p8 (suc zero) h = p1
at_nine P p0 p1 p2 p3 p4 p5 p6 p7 p8 (suc (suc zero)) h = p2
at_nine P p0 p1 p2 p3 p4 p5 p6 p7 p8 (suc (suc (suc zero))) h = p3
at_nine P p0 p1 p2 p3 p4 p5 p6 p7 p8 (suc (suc (suc (suc zero)))) h = p4
at_nine P p0 p1 p2 p3 p4 p5 p6 p7 p8 (suc (suc (suc (suc (suc zero))))) h = p5
at_nine P p0 p1 p2 p3 p4 p5 p6 p7 p8 (suc (suc (suc (suc (suc (suc zero)))))) h = p6
at_nine P p0 p1 p2 p3 p4 p5 p6 p7 p8 (suc (suc (suc (suc (suc (suc (suc zero))))))) h = p7
at_nine P p0 p1 p2 p3 p4 p5 p6 p7 p8 (suc (suc (suc (suc (suc (suc (suc (suc zero)))))))) h = p8
at_nine P p0 p1 p2 p3 p4 p5 p6 p7 p8 (suc (suc (suc (suc (suc (suc (suc (suc (suc m))))))))) h = absurd (omega arith)

turned_is : (x : ℕ) → x ≤ 1 → c_mul (real x) (c_conj (real 1)) ≡ real x
unfolding add sub mul neg of_int
turned_is = at_two (λ x. c_mul (real x) (c_conj (real 1)) ≡ real x) refl refl

mean_is : (x : ℕ) → x ≤ 1 → c_div (c_add c_zero (real x)) (of 1) ≡ real x
unfolding add div of_int of_bits
mean_is = at_two (λ x. c_div (c_add c_zero (real x)) (of 1) ≡ real x) refl refl

-- one less, and an eighth of each sum of eight
one_less : (m : ℕ) → m ≤ 8 → 1 ≤ m → of m ⊕ (of 0 ⊖ of 1) ≡ of (m - 1)
unfolding add sub of_int
one_less =
    at_nine (λ m. 1 ≤ m → of m ⊕ (of 0 ⊖ of 1) ≡ of (m - 1)) (λ h. absurd (omega arith)) (λ h. refl) (λ h. refl) (λ h. refl) (λ h. refl) (λ h. refl) (λ h. refl) (λ h. refl)
    (λ h. refl)

eighth_is : (m : ℕ) → m ≤ 8 → c_norm (c_div (real m) eight) ≡ fraction m 8
unfolding add mul div of_int of_bits sqrt_of fraction round
eighth_is = at_nine (λ m. c_norm (c_div (real m) eight) ≡ fraction m 8) refl refl refl refl refl refl refl refl refl

plus_nought : of 0 ⊕ of 0 ≡ of 0
unfolding add of_int
plus_nought = refl

less_nought : of 0 ⊕ (of 0 ⊖ of 0) ≡ of 0
unfolding add sub of_int
less_nought = refl

-- what comes in, less what goes out
moved_up : (m x y : ℕ) → m ≤ 8 → x ≤ 1 → y ≤ x → of m ⊕ (of x ⊖ of y) ≡ of (m + x - y)
moved_up m x y a b c =
    let same : m + (x - y) ≡ m + x - y = omega arith in
    rw (whole_sub binary64 x y (omega arith) c, whole_add binary64 m (x - y) (omega arith) (omega arith), same)

moved_re : (m x y : ℕ) → m ≤ 8 → x ≤ 1 → y ≤ 1 → y ≤ m + x → of m ⊕ (of x ⊖ of y) ≡ of (m + x - y)
moved_re m x zero a b c d = moved_up m x zero a b (omega arith)
moved_re m zero (suc y) a b c d =
    let one_of : suc y ≡ 1 = omega arith in
    let some : m + 0 - 1 ≡ m - 1 = omega arith in
    rw (one_of, some) (one_less m a (omega arith))
moved_re m (suc x) (suc y) a b c d = moved_up m (suc x) (suc y) a b (omega arith)

moved_real : (m x y : ℕ) → m ≤ 8 → x ≤ 1 → y ≤ 1 → y ≤ m + x → c_add (real m) (c_sub (real x) (real y)) ≡ real (m + x - y)
moved_real m x y a b c d = rw (moved_re m x y a b c d, less_nought)

plus_real : (m x : ℕ) → m ≤ 8 → x ≤ 1 → c_add (real m) (real x) ≡ real (m + x)
plus_real m x a b = rw (whole_add binary64 m x (omega arith) (omega arith), plus_nought)

nought_real : c_zero ≡ real 0
unfolding of_int of_bits
nought_real = refl

-- ---- a recording of n samples, b k at k with b k ≤ 1, of which T k are ones below k: at a step of 1 its row is the
-- number of ones in each eight, over 8
module _ (iq : List Float) (n : ℕ) (b T : ℕ → ℕ) (few : n ≤ 2 ^ 20) (bit : (k : ℕ) → b k ≤ 1) (start : T 0 ≡ 0) (next : (k : ℕ) → T (suc k) ≡ T k + b k)
    (is : (k : ℕ) → k < n → z_at iq k ≡ real (b k)) where
  derot_real : (k : ℕ) → k < n → derot iq (of 0) k ≡ real (b k)
  unfolding derot
  derot_real k h =
      ap (λ (v : Complex). c_mul v (c_conj (rotor_of (of 0) k))) (is k h) ∙ ap (λ (v : Complex). c_mul (real (b k)) (c_conj v)) (rotor_unturned k (omega arith))
      ∙ turned_is (b k) (bit k)

  mean_real : (k : ℕ) → k < n → block_mean iq (of 0) 1 k ≡ real (b k)
  unfolding block_mean mean_from c_sum
  mean_real k h =
      let here : k * 1 + 0 ≡ k = omega arith in
      ap (λ (v : Complex). c_div (c_add c_zero v) (of 1)) (ap (derot iq (of 0)) here ∙ derot_real k h) ∙ mean_is (b k) (bit k)

  ones_low : (j i : ℕ) → T i ≤ T (j + i)
  ones_low zero i = let here : 0 + i ≡ i = omega arith in rw here (omega arith)
  ones_low (suc j) i = let here : suc j + i ≡ suc (j + i) = omega arith in rw (here, next (j + i)) (omega (arith, ones_low j i))

  ones_high : (j i : ℕ) → T (j + i) ≤ T i + j
  ones_high zero i = let here : 0 + i ≡ i = omega arith in rw here (omega arith)
  ones_high (suc j) i = let here : suc j + i ≡ suc (j + i) = omega arith in rw (here, next (j + i)) (omega (arith, ones_high j i, bit (j + i)))

  sum_real : (j : ℕ) → j ≤ 8 → j ≤ n → c_sum (block_mean iq (of 0) 1) 0 j ≡ real (T j)
  unfolding c_sum
  sum_real zero h g = nought_real ∙ ap real (sym start)
  sum_real (suc j) h g =
      let here : 0 + j ≡ j = omega arith in
      let sofar : T j ≤ 8 = first_few j (omega arith) in
      ap (λ (v : Complex). c_add v (block_mean iq (of 0) 1 (0 + j))) (sum_real j (omega arith) (omega arith))
      ∙ ap (λ (v : Complex). c_add (real (T j)) v) (ap (block_mean iq (of 0) 1) here ∙ mean_real j g) ∙ plus_real (T j) (b j) sofar (bit j) ∙ ap real (sym (next j))
    where
      first_few : (i : ℕ) → i ≤ 8 → T i ≤ 8
      first_few i l = let here : i + 0 ≡ i = omega arith in omega (arith, ones_high i 0, ap T here)

  run_real : (i : ℕ) → 8 + i ≤ n → running_sum (block_mean iq (of 0) 1) i ≡ real (T (8 + i) - T i)
  unfolding running_sum
  run_real zero h = let all : T 8 ≡ T 8 - T 0 = omega arith in sum_real 8 (omega arith) h ∙ ap real all
  run_real (suc i) h =
      let z = block_mean iq (of 0) 1 in
      let m = T (8 + i) - T i in
      let low = ones_low 8 i in
      let high = ones_high 8 i in
      let there : 8 + suc i ≡ suc (8 + i) = omega arith in
      let more : T (8 + suc i) ≡ T (8 + i) + b (8 + i) = ap T there ∙ next (8 + i) in
      let after = next i in
      let order = ones_low 8 (suc i) in
      let same : m + b (8 + i) - b i ≡ T (8 + suc i) - T (suc i) = omega arith in
      ap (λ (v : Complex). c_add v (c_sub (z (8 + i)) (z i))) (run_real i (omega arith)) ∙ ap (λ (v : Complex). c_add (real m) (c_sub v (z i))) (mean_real (8 + i) (omega arith))
      ∙ ap (λ (v : Complex). c_add (real m) (c_sub (real (b (8 + i))) v)) (mean_real i (omega arith))
      ∙ moved_real m (b (8 + i)) (b i) (omega arith) (bit (8 + i)) (bit i) (omega arith) ∙ ap real same

  row_real : (i : ℕ) → 8 + i ≤ n → amplitude (block_mean iq (of 0) 1) i ≡ fraction (T (8 + i) - T i) 8
  row_real i h = rw (run_real i h) (eighth_is (T (8 + i) - T i) (omega (arith, ones_high 8 i)))

-- ---- a list of samples, one behind the other
both_parts : (x y x' y' : Float) → x ≡ x' → y ≡ y' → c_new x y ≡ c_new x' y'
both_parts x y x' y' p q = rw (p, q)

pair_last : (l : List Float) (x y : Float) (n : ℕ) → length l ≡ 2 * n → z_at (l ++ (x ∷ y ∷ [])) n ≡ c_new x y
pair_last l x y n size =
    let re : 2 * n ≡ length l + 0 = omega arith in
    let im : 2 * n + 1 ≡ length l + 1 = omega arith in
    both_parts (get_or (l ++ (x ∷ y ∷ [])) (2 * n) nan) (get_or (l ++ (x ∷ y ∷ [])) (2 * n + 1) nan) x y
    (ap (λ (i : ℕ). get_or (l ++ (x ∷ y ∷ [])) i nan) re ∙ get_or-append-add l (x ∷ y ∷ []) 0 nan)
    (ap (λ (i : ℕ). get_or (l ++ (x ∷ y ∷ [])) i nan) im ∙ get_or-append-add l (x ∷ y ∷ []) 1 nan)

pair_before : (l r : List Float) (k : ℕ) → 2 * k + 1 < length l → z_at (l ++ r) k ≡ z_at l k
pair_before l r k h =
    both_parts (get_or (l ++ r) (2 * k) nan) (get_or (l ++ r) (2 * k + 1) nan) (get_or l (2 * k) nan) (get_or l (2 * k + 1) nan)
    (get_or-append l r nan (2 * k) (omega arith)) (get_or-append l r nan (2 * k + 1) h)

-- ---- ones at a..e: the recording's samples, and how many ones there are below k
module _ (a e : ℕ) where
  abbrev pub bit_at : ℕ → ℕ
  bit_at k = cond (is_one a e k) 1 0

  abbrev pub ones_below : ℕ → ℕ
  ones_below k = min k (suc e) - a

  pub bit_small : (k : ℕ) → bit_at k ≤ 1
  bit_small k = small (is_one a e k)
    where
      small : (t : Bool) → cond t 1 0 ≤ 1
      small true = omega arith
      small false = omega arith

  pub ones_next : (k : ℕ) → ones_below (suc k) ≡ ones_below k + bit_at k
  unfolding is_one
  ones_next k =
      ⊎_elim
      (λ p. let h = leb-true a k p in
      ⊎_elim (λ q. let g = leb-true k e q in rw (p, q) (omega arith)) (λ q. let g = leb-false k e q in rw (p, q) (omega arith)) (either (leb k e)))
      (λ p. let h = leb-false a k p in rw p (omega arith))
      (either (leb a k))

  pub length_ones : (n : ℕ) → length (ones_of a e n) ≡ 2 * n
  unfolding ones_of
  length_ones zero = refl
  length_ones (suc n) = length-append (ones_of a e n) (of (bit_at n) ∷ of 0 ∷ []) ∙ (let so_far = length_ones n in omega arith)

  pub sample_ones : (n k : ℕ) → k < n → z_at (ones_of a e n) k ≡ real (bit_at k)
  unfolding ones_of
  sample_ones zero k h = absurd (not-suc-le-zero h)
  sample_ones (suc n) k h =
      let size = length_ones n in
      ⊎_elim (λ q. ap (z_at (ones_of a e (suc n))) q ∙ pair_last (ones_of a e n) (of (bit_at n)) (of 0) n size ∙ ap (λ (i : ℕ). real (bit_at i)) (sym q))
      (λ l. pair_before (ones_of a e n) (of (bit_at n) ∷ of 0 ∷ []) k (omega arith) ∙ sample_ones n k l)
      (eq-or-lt_of_le (le_of_suc-le-suc h))

  -- ---- derotated by nothing, and its row at a step of 1
  module _ (n : ℕ) (few : n ≤ 2 ^ 20) where
    pub derot_ones : (k : ℕ) → k < n → derot (ones_of a e n) (of 0) k ≡ real (bit_at k)
    derot_ones = derot_real (ones_of a e n) n bit_at ones_below few bit_small (omega arith) ones_next (sample_ones n)

    pub row_ones : (i : ℕ) → 8 + i ≤ n → amplitude (block_mean (ones_of a e n) (of 0) 1) i ≡ fraction (ones_below (8 + i) - ones_below i) 8
    row_ones = row_real (ones_of a e n) n bit_at ones_below few bit_small (omega arith) ones_next (sample_ones n)
