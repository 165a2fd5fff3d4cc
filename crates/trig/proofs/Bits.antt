-- The bit patterns that PI, TAU, LN_2 and LN_10 have in the code, computed from their digits.
use Rattle.std.proofs.Common.{◌≡◌, refl}
use lib.Ieee.{round, of_bits}
use Rattle.float.specs.Ops.{bits}
use Rattle.trig.specs.Consts.{PI, TAU, LN_2, LN_10}

pub pi_bits : PI ≡ bits 0x4009_21fb_5444_2d18
unfolding PI round of_bits
pi_bits = refl

pub tau_bits : TAU ≡ bits 0x4019_21fb_5444_2d18
unfolding TAU round of_bits
tau_bits = refl

pub ln_2_bits : LN_2 ≡ bits 0x3fe6_2e42_fefa_39ef
unfolding LN_2 round of_bits
ln_2_bits = refl

pub ln_10_bits : LN_10 ≡ bits 0x4002_6bb1_bbb5_5516
unfolding LN_10 round of_bits
ln_10_bits = refl
