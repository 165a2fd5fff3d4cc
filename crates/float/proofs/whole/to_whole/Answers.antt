-- `float::whole::to_whole` meets its contract.
use Rattle.std.proofs.Common.{◌≡◌, ℕ, ◌^◌, ◌<◌, T, ℤ, pos, nat_abs, sym, ap, ◌∙◌, subst, arith, w64, Fits, to_z, of_z}
use lib.Signed.{non_neg}
use mir.ValLaws.{to_z_pos}
use lib.Ieee.{Float, of_bits, lt, binary64, of_int, in_signed, to_signed, to_unsigned}
use lib.Ieee.Back.{positive_back}
use Rattle.float.specs.Whole.{cut, whole_by}
use Rattle.float.proofs.Compared.{nought, yes, no, above_minus, unsigned_top, unsigned_none}
use Rattle.float.proofs.Counts.{whole_in}
use Rattle.float.proofs.Cuts.{limit}
use Rattle.float.proofs.Wholes.{cut_is}
use Rattle.float.proofs.whole.to_whole.Lts as lts
use Rattle.float.proofs.whole.to_whole.Reads as reads
use Rattle.float.proofs.whole.to_whole.Tie as tie
use Rattle.float.proofs.whole.to_whole.Goals as goal

-- the whole part as an i64, and on
cast : (x t : Float) → T (lt nought x) → T (lt x limit) → t ≡ whole_by cut x → T (in_signed binary64 63 t) × (to_z w64 (of_z w64 (to_signed 63 t)) ≡ pos (to_unsigned 64 x)) × (to_unsigned 64 x < 2 ^ 52)
cast x t h k e =
    let w = cut_is x h k in
    let b = positive_back binary64 63 w.0 (whole_in binary64 w.0 (omega (arith, w.1))) (omega (arith, w.1)) in
    let s : t ≡ of_int binary64 (pos w.0) = e ∙ w.3 in (
      subst (λ (z : Float). T (in_signed binary64 63 z)) (sym s) b.0,
      ap (λ (z : ℤ). to_z w64 (of_z w64 z)) (ap (to_signed 63) s ∙ b.1) ∙ to_z_pos w64 w.0 (omega (arith, w.1)) ∙ ap pos (sym w.2),
      subst (λ (n : ℕ). n < 2 ^ 52) (sym w.2) w.1,
    )

above : (c : lts.Then1 tie.the-claims reads.Pre reads.Post tie.handed_clauses) → T (lt nought c.args.x)
unfolding of_bits
above c = yes c.if-x.true

known : (c : lts.After-whole_down tie.the-claims reads.Pre reads.Post tie.handed_clauses) → T (in_signed binary64 63 c.whole_down-t.result) × (to_z w64 (of_z w64 (to_signed 63 c.whole_down-t.result)) ≡ pos (to_unsigned 64 c.args.x)) × (to_unsigned 64 c.args.x < 2 ^ 52)
unfolding of_bits
known c = cast c.args.x c.whole_down-t.result (above c.before.before) (yes c.if-x-2.true) c.whole_down-t.ensures

pub float_to_int-n : goal.float_to_int-n
float_to_int-n c = (known c.before).0

pub overflow_cast-result : goal.overflow_cast-result
overflow_cast-result c = let k = known c.before in subst (λ (z : ℤ). T (non_neg z) × Fits w64 (nat_abs z)) (sym k.1) (tt, record { fits = omega (arith, k.2) })

pub truncating_f64_to_u64-requires : goal.truncating_f64_to_u64-requires
unfolding of_bits
truncating_f64_to_u64-requires c = record { lower_bound = above_minus c.args.x (above c.before.before); upper_bound = yes c.if-x-3.true }

pub returns-then-x-2 : goal.returns-then-x-2
returns-then-x-2 c = ap nat_abs (known c.before).1

pub returns-else-x-3 : goal.returns-else-x-3
unfolding of_bits
returns-else-x-3 c = unsigned_top 64 c.args.x (above_minus c.args.x (above c.before.before)) (no c.if-x-3.false)

pub returns-else-x : goal.returns-else-x
unfolding of_bits
returns-else-x c = unsigned_none 64 c.args.x (no c.if-x.false)
