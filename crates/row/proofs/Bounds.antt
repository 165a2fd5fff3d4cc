-- Every amplitude of the row is an amount: finite, not negative and no -0.0, at any rate and any carrier, a NaN and
-- the infinities included (`row_amount`).
-- A finite f32 is below 2 ^ 128 and a sine at most 2 ^ 50, so that 2 ^ 20 moves of the running sum stay far below the
-- largest f64 and their squares too. Assumes nothing.
use mathlib.Core.Path.{◌≡◌, sym, subst}
use mathlib.Core.Bool.{true, false≢true}
use mathlib.Core.List.{List}
use Prim.Native.Nat.{ℕ, zero, suc, ◌+◌, ◌-◌, ◌*◌, ◌^◌, ◌≤◌, ◌<◌}
use native.Mathlib.Nat.{suc-mul}
use native.Mathlib.Omega.{arith}
use lib.Dec.{T, lit≤}
use lib.ListN.{length, get_or}
use lib.Ieee.{Float, nan, inf, fin}
use lib.Ieee.Scale.{finite}
use Rattle.float.specs.Ops.{◌⊘◌}
use Rattle.float.proofs.Bounds.{bounded_single, beyond_eight}
use Rattle.float.proofs.Amounts.{Amount}
use Rattle.trig.proofs.Bounds.{sine_bounded, cosine_bounded}
use Rattle.complex.specs.declared.value.Complex.{Complex}
use Rattle.complex.specs.Rows.{z_at}
use Rattle.complex.proofs.Bounds.{CBounded, cbounded_more, cbounded_add, cbounded_sub, cbounded_mul, cbounded_conj, cbounded_div, cbounded_sum, cbounded_mean, norm_amount}
use Rattle.float.specs.Size.{finite_f}
use Rattle.row.specs.Samples.{Singles, Iq}
use Rattle.row.specs.Window.{step_of, blocks}
use Rattle.row.specs.Blocks.{rotor_of, derot, mean_from, block_mean}
use Rattle.row.specs.Envelope.{running_sum, amplitude, row_of, row_length}
use Rattle.row.specs.Inner.{moved_by}
use Rattle.row.proofs.Finite.{finite_at}
use Rattle.row.proofs.Means.{blocks_short, block_fits}
use Rattle.row.proofs.Steps.{step_low}

-- ---- the running sum of bounded numbers

run_grows : (b i : ℕ) → 8 * b + suc i * (b + b) ≡ 8 * b + i * (b + b) + (b + b)
run_grows b i = let more : suc i * (b + b) ≡ i * (b + b) + (b + b) = suc-mul i (b + b) in omega arith

pub run_bounded : {k b : ℕ} (z : ℕ → Complex) (i : ℕ) → ((j : ℕ) → j < 8 + i → CBounded k b (z j)) → 8 * b + i * (b + b) ≤ 2 ^ 53 → k ≤ 970 → CBounded k (8 * b + i * (b + b)) (running_sum z i)
unfolding running_sum
run_bounded {k} {b} z zero each h g = cbounded_more (cbounded_sum z 0 8 (λ j l. each (0 + j) (omega arith)) (omega arith) g) (omega arith) (omega arith)
run_bounded {k} {b} z (suc i) each h g =
    let more : 8 * b + suc i * (b + b) ≡ 8 * b + i * (b + b) + (b + b) = run_grows b i in
    subst (λ (a : ℕ). CBounded k a (moved_by z i (running_sum z i))) (sym more)
    (cbounded_add
    (run_bounded z i (λ j l. each j (omega arith)) (omega arith) g)
    (cbounded_sub (each (8 + i) (omega arith)) (each i (omega arith)) (omega arith) g)
    (omega arith) g)

-- ---- the recording

finite_is : (x : Float) → finite_f x ≡ true → T (finite x)
unfolding finite_f
finite_is nan e = absurd (false≢true e)
finite_is (inf s) e = absurd (false≢true e)
finite_is (fin s m d) e = tt

pub sample_bounded : (iq : List Float) (k : ℕ) → Singles iq → Iq iq → 2 * k + 1 < length iq → CBounded 128 1 (z_at iq k)
sample_bounded iq k s q h =
    record {
      re_part = bounded_single (get_or iq (2 * k) nan) (s (2 * k)) (finite_is (get_or iq (2 * k) nan) (finite_at iq (2 * k) (omega arith) q.finite));
      im_part = bounded_single (get_or iq (2 * k + 1) nan) (s (2 * k + 1)) (finite_is (get_or iq (2 * k + 1) nan) (finite_at iq (2 * k + 1) h q.finite));
    }

pub rotor_bounded : (cyc : Float) (k : ℕ) → CBounded 50 1 (rotor_of cyc k)
unfolding rotor_of
rotor_bounded cyc k = record { re_part = cosine_bounded _; im_part = sine_bounded _ }

pub derot_bounded : (iq : List Float) (cyc : Float) (k : ℕ) → Singles iq → Iq iq → 2 * k + 1 < length iq → CBounded 178 2 (derot iq cyc k)
unfolding derot
derot_bounded iq cyc k s q h = cbounded_mul (sample_bounded iq k s q h) (cbounded_conj (rotor_bounded cyc k)) (lit≤ tt) (lit≤ tt)

pub mean_bounded : (iq : List Float) (cyc : Float) (a len : ℕ) → Singles iq → Iq iq → 0 < len → 2 * (a + len) ≤ length iq → CBounded 178 2 (mean_from iq cyc a len)
unfolding mean_from
mean_bounded iq cyc a len s q p h =
    let few : len * 2 ≤ 2097152 = omega (arith, q.short) in
    cbounded_mean (derot iq cyc) a len (λ i l. derot_bounded iq cyc (a + i) s q (omega arith)) p (omega arith) (omega arith) (lit≤ tt)

pub block_bounded : (iq : List Float) (cyc : Float) (len b : ℕ) → Singles iq → Iq iq → 0 < len → b < blocks iq len → CBounded 178 2 (block_mean iq cyc len b)
unfolding block_mean
block_bounded iq cyc len b s q p h = mean_bounded iq cyc (b * len) len s q p (block_fits (length iq) len b h)

-- ---- the row

pub amplitude_amount : (iq : List Float) (cyc : Float) (len i : ℕ) → Singles iq → Iq iq → 0 < len → i < blocks iq len - 7 → Amount (amplitude (block_mean iq cyc len) i)
amplitude_amount iq cyc len i s q p h =
    let few : blocks iq len ≤ 1048576 = blocks_short iq len q.short in
    let run : CBounded 178 (8 * 2 + i * (2 + 2)) (running_sum (block_mean iq cyc len) i) =
    run_bounded (block_mean iq cyc len) i (λ j l. block_bounded iq cyc len j s q p (omega arith)) (omega arith) (lit≤ tt) in
    norm_amount {k = 178} {a = 2 ^ 23} (cbounded_more (cbounded_div run beyond_eight (omega arith) (lit≤ tt)) (omega arith) (lit≤ tt)) (lit≤ tt) (lit≤ tt)

pub row_amount : (iq : List Float) (fs carrier : Float) (i : ℕ) → Singles iq → Iq iq → i < row_length iq fs → Amount (row_of iq fs carrier i)
unfolding row_of
row_amount iq fs carrier i s q h = amplitude_amount iq (carrier ⊘ fs) (step_of fs) i s q (step_low fs) h
