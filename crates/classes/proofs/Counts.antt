-- How many blocks have each class: what a slice of their numbers counts, and that all together are all blocks.
use Prim.Native.Nat.{ℕ, zero, suc, ◌+◌, ◌≤◌, ◌<◌}
use native.Mathlib.Numerals.{add-one}
use native.Mathlib.Omega.{arith}
use mathlib.Core.Path.{◌≡◌, refl, sym, ap, ◌∙◌}
use mathlib.Core.Bool.{Bool, true, false, cond}
use mathlib.Core.List.{List}
use mir.Val.{bool_byte}
use lib.ListN.{length, get_or, take}
use Rattle.std.specs.List.{count_by}
use Rattle.std.proofs.lemmas.List.{take_all}
use Rattle.std.proofs.lemmas.List.Sums.{count_by_more_yes, count_by_more_no}
use lib.Ieee.{Float, nan, eq}
use Rattle.lists.specs.Count.{count_to}
use Rattle.lists.proofs.Count.{count_cong}
use Rattle.classes.specs.declared.class.BlockClass.{BlockClass}
use Rattle.classes.specs.declared.class.BlockClass.TheVariants.{Edge, Interior, Gap, Other}
use Rattle.classes.specs.Class.{code_of, codes_of, is_class}
use Rattle.classes.specs.Classify.{counts_of, count_in, counts_in}
use Rattle.classes.proofs.Codes.{code_tells}
use Rattle.classes.proofs.Classes.{codes_length, code_at}

-- a test as a number
pub as_bit : (t : Bool) → bool_byte t ≡ cond t 1 0
as_bit true = refl
as_bit false = refl

-- how many of a list pass a test, by their places
pub count_listed : (p : Float → Bool) (l : List Float) → count_by p l ≡ count_to (λ b. p (get_or l b nan)) (length l)
unfolding count_to
count_listed p l = ap (count_by p) (sym (take_all (length l) l (omega arith))) ∙ up (length l) (omega arith)
  where
    turn : (n : ℕ) → n < length l → (t : Bool) → p (get_or l n nan) ≡ t → count_by p (take n l) ≡ count_to (λ b. p (get_or l b nan)) n
        → count_by p (take (n + 1) l) ≡ count_to (λ b. p (get_or l b nan)) n + cond t 1 0
    turn n h true e c = count_by_more_yes p l n nan h e ∙ ap (λ k. k + 1) c
    turn n h false e c = count_by_more_no p l n nan h e ∙ omega (arith, c)

    up : (n : ℕ) → n ≤ length l → count_by p (take n l) ≡ count_to (λ b. p (get_or l b nan)) n
    up zero h = refl
    up (suc n) h = ap (λ k. count_by p (take k l)) (sym (add-one n)) ∙ turn n (omega arith) (p (get_or l n nan)) refl (up n (omega arith))

-- ---- a slice that holds the numbers of a row of classes
module _ (f : ℕ → BlockClass) (n : ℕ) (l : List Float) (e : l ≡ codes_of f n) where
  pub class_told : (b : ℕ) (c : BlockClass) → b < n → eq (get_or l b nan) (code_of c) ≡ is_class c (f b)
  class_told b c h = ap (λ x. eq x (code_of c)) (code_at f n l e b h) ∙ code_tells c (f b)

  pub count_holds : (c : BlockClass) → count_in l c ≡ count_to (λ b. is_class c (f b)) n
  unfolding count_in
  count_holds c =
      ap (count_to (λ b. eq (get_or l b nan) (code_of c))) (codes_length f n l e)
      ∙ count_cong (λ b. eq (get_or l b nan) (code_of c)) (λ b. is_class c (f b)) n (λ b. class_told b c)

  pub counts_hold : counts_in l ≡ counts_of f n
  counts_hold = rw (count_holds Edge, count_holds Interior, count_holds Gap, count_holds Other)

-- ---- every block has one of the four classes, and no two
abbrev has : BlockClass → BlockClass → ℕ
has c d = cond (is_class c d) 1 0

one_class : (d : BlockClass) → has Edge d + has Interior d + has Gap d + has Other d ≡ 1
one_class Edge = refl
one_class Interior = refl
one_class Gap = refl
one_class Other = refl

-- the four counts together are the number of blocks
pub blocks_counted : (f : ℕ → BlockClass) (n : ℕ) → (counts_of f n).edge + (counts_of f n).interior + (counts_of f n).gap + (counts_of f n).other ≡ n
unfolding count_to
blocks_counted f zero = refl
blocks_counted f (suc n) = let before = blocks_counted f n in let one = one_class (f n) in omega arith
