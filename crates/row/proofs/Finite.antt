-- Finite samples: what a yes to question 3 says of each sample.
use Rattle.std.proofs.Common.{◌≡◌, ℕ, ◌<◌, List, true, length, get_or}
use Rattle.std.specs.Prelude.{Float}
use Rattle.std.specs.Float.{nan}
use Rattle.lists.proofs.Every.{every_at}
use Rattle.float.specs.Size.{finite_f}
use Rattle.row.specs.Samples.{finite_to, all_finite}

pub finite_at : (l : List Float) (k : ℕ) → k < length l → all_finite l ≡ true → finite_f (get_or l k nan) ≡ true
unfolding finite_to
finite_at l k h e = every_at (λ k. finite_f (get_or l k nan)) (length l) k h e
