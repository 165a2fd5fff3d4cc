-- The residual check of the blocks that a prepared slice holds: from what each of its steps ensures to the check's
-- definition.
use Prim.Native.Nat.{ℕ, ◌<◌}
use mathlib.Core.Path.{◌≡◌, refl, ap, ◌∙◌}
use mathlib.Core.List.{List}
use lib.ListN.{length}
use lib.Ieee.{Float}
use Rattle.float.specs.Ops.{half}
use Rattle.lists.specs.Those.{picked}
use Rattle.lists.proofs.Those.{picked_cong, length_picked}
use Rattle.constants.specs.Constants.{NEIGHBOUR_PERCENTILE}
use Rattle.complex.specs.declared.value.Complex.{Complex}
use Rattle.complex.specs.Value.{c_norm_sqr}
use Rattle.complex.specs.Rows.{z_at}
use Rattle.row.specs.Window.{window_of}
use Rattle.rank.specs.Select.{percentile_of}
use Rattle.fits.specs.declared.fit.ElementFit.{ElementFit}
use Rattle.classes.specs.declared.class.BlockClass.{BlockClass}
use Rattle.classes.specs.declared.class.BlockClass.TheVariants.{Edge, Interior, Gap}
use Rattle.classes.specs.Class.{is_class}
use Rattle.classes.specs.Classify.{counts_of}
use Rattle.prepared.specs.declared.powers.Level.{Level}
use Rattle.measure.specs.declared.residual.ResidualCheck.{ResidualCheck}
use Rattle.prepared.specs.Powers.{block_power, powers_of}
use Rattle.prepared.specs.Left.{less_fits, residual_mean}
use Rattle.measure.specs.Residual.{figures_of, residual_of}
use Rattle.prepared.specs.Inner.{of_class, class_powers}
use Rattle.measure.specs.Inner.{Held, figures_from, residual_held}
use Rattle.measure.proofs.Grids.{class_held}

-- one level, of the powers of what is left: the means in the slice `left`, in place of those in the slice `means`
pub record Ranked (left codes : List Float) (blocks : ℕ) (c : BlockClass) (p : Float) (level : Level) : Type 0 where
  pub value : level.value ≡ percentile_of (class_powers left codes blocks c) p
  pub count : level.count ≡ length (class_powers left codes blocks c)

pub residual_is : (means codes left : List Float) (blocks len : ℕ) (fs : Float) (fits : List ElementFit) (edge interior gap : Level) (r : ResidualCheck)
    → len ≡ window_of fs → ((b : ℕ) → b < blocks → z_at left b ≡ less_fits fs len blocks fits b (z_at means b))
    → Ranked left codes blocks Edge half edge → Ranked left codes blocks Interior half interior → Ranked left codes blocks Gap NEIGHBOUR_PERCENTILE gap
    → r ≡ figures_from edge interior gap → r ≡ residual_held means codes blocks fs fits
unfolding residual_held figures_of
residual_is means codes left blocks len fs fits edge interior gap r s l a b c e =
    rw (e, a.value, b.value, c.value, a.count, b.count, c.count, q Edge, q Interior, q Gap)
  where
    q : (x : BlockClass) → class_powers left codes blocks x ≡ picked (of_class codes x) (block_power (residual_mean fs blocks fits (z_at means))) blocks
    q x =
        picked_cong (of_class codes x) (of_class codes x) (block_power (z_at left)) (block_power (residual_mean fs blocks fits (z_at means))) blocks
        (λ k h. refl) (λ k h t. ap c_norm_sqr (rw s at (l k h)))

-- of the blocks that a prepared slice holds it is the check of the rows that the slice was prepared from
pub residual_prepared : (means codes : List Float) (z : ℕ → Complex) (class : ℕ → BlockClass) (blocks : ℕ) (fs : Float) (fits : List ElementFit)
    → Held means codes z class blocks → residual_held means codes blocks fs fits ≡ residual_of fs z class blocks fits
unfolding residual_held residual_of
residual_prepared means codes z class blocks fs fits p = rw (same Edge, same Interior, same Gap)
  where
    same : (c : BlockClass) → picked (of_class codes c) (block_power (residual_mean fs blocks fits (z_at means))) blocks ≡ powers_of c class (residual_mean fs blocks fits z) blocks
    same c =
        picked_cong (of_class codes c) (λ b. is_class c (class b)) (block_power (residual_mean fs blocks fits (z_at means))) (block_power (residual_mean fs blocks fits z)) blocks
        (λ b h. class_held means codes z class blocks c b p h)
        (λ b h t. ap (λ y. c_norm_sqr (less_fits fs (window_of fs) blocks fits b y)) (p.mean b h))

-- ---- of a recording

pub check_is : (fs fs' : Float) (means codes : List Float) (z : ℕ → Complex) (class : ℕ → BlockClass) (blocks n : ℕ) (fits : List ElementFit) (r : ResidualCheck)
    → fs' ≡ fs → blocks ≡ n → Held means codes z class n → r ≡ residual_held means codes blocks fs' fits → r ≡ residual_of fs z class n fits
check_is fs fs' means codes z class blocks n fits r e b p h = h ∙ rw (e, b) (residual_prepared means codes z class n fs fits p)

-- its counts are those of the classes
pub blocks_counted : (fs : Float) (z : ℕ → Complex) (class : ℕ → BlockClass) (blocks : ℕ) (fits : List ElementFit)
    → let r = residual_of fs z class blocks fits in
    (r.edge_blocks ≡ (counts_of class blocks).edge) × (r.interior_blocks ≡ (counts_of class blocks).interior) × (r.gap_blocks ≡ (counts_of class blocks).gap)
unfolding residual_of figures_of
blocks_counted fs z class blocks fits = (length_picked _ _ blocks, length_picked _ _ blocks, length_picked _ _ blocks)
