-- What yes to a question shows. What a call has where every answer is yes stands in a file of the call's crate. Assumes
-- nothing.
use Prim.Native.Nat.{ℕ, ◌*◌, ◌/◌, ◌%◌, ◌≤◌}
use native.Mathlib.Omega.{arith}
use mathlib.Core.Path.{◌≡◌, refl, sym, ◌∙◌}
use mathlib.Core.Bool.{Bool, true, false}
use mathlib.Core.List.{List}
use lib.Dec.{leb, eqb}
use lib.ListN.{length}
use lib.Ieee.{Float}
use borrow.Author.Tests.{leb-true, leb-false, le-leb, lt-leb}
use Rattle.lists.proofs.Every.{and_right}
use Rattle.row.specs.Samples.{Iq, all_finite}
use Rattle.elements.specs.Element.{ELEMENT}
use Rattle.fits.specs.List.{FIT}
use Rattle.questions.specs.Questions.{count_ok, places_ok, work_ok}

-- 2 and 3
pub recording_is : (iq : List Float) → count_ok (length iq) ≡ true → all_finite iq ≡ true → Iq iq
unfolding count_ok
recording_is iq h f = record { short = leb-true (length iq) 2097152 (and_right (eqb (length iq % 2) 0) (leb (length iq) 2097152) h); finite = f }

-- 5, of a list of elements and of a list of fits
pub element_places : (need len : ℕ) → places_ok need (len / ELEMENT) ≡ true → ELEMENT * need ≤ len
element_places need len h = let room = leb-true need (len / ELEMENT) h in omega arith

pub fit_places : (need len : ℕ) → places_ok need (len / FIT) ≡ true → FIT * need ≤ len
fit_places need len h = let room = leb-true need (len / FIT) h in omega arith

-- 6
pub work_room : (b len : ℕ) → work_ok b len ≡ true → 4 * b ≤ len
unfolding work_ok
work_room b len h = leb-true (4 * b) len h

-- and as it is asked
pub work_is : (b len : ℕ) → leb b (len / 4) ≡ work_ok b len
unfolding work_ok
work_is b len = go (leb b (len / 4)) refl
  where
    go : (t : Bool) → leb b (len / 4) ≡ t → leb b (len / 4) ≡ leb (4 * b) len
    go true e = let few = leb-true b (len / 4) e in e ∙ sym (le-leb (4 * b) len (omega arith))
    go false e = let many = leb-false b (len / 4) e in e ∙ sym (lt-leb (4 * b) len (omega arith))
