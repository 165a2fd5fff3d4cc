-- Numbers after blanks: one more of them, and room for it. Assumes nothing.
use Prim.Native.Nat.{ℕ, ◌+◌, ◌*◌, ◌≤◌, ◌<◌}
use native.Mathlib.Omega.{arith}
use native.Mathlib.Numerals.{add-one}
use mathlib.Core.Path.{◌≡◌, refl, sym, ap, ◌∙◌}
use mathlib.Core.List.{List, [], ◌∷◌, ◌++◌, append_assoc, append-nil}
use lib.ListN.{length, get_or, take, drop, length-append, take-append-drop}
use lib.Seq.{take-suc}
use Rattle.std.specs.Prelude.{codes}
use Rattle.format.specs.Text.{decimal, spaced, line}
use Rattle.format.proofs.Decimals.{decimal_few, decimal_most}

-- one more of them
spaced_both : (ns ms : List ℕ) → spaced (ns ++ ms) ≡ spaced ns ++ spaced ms
unfolding spaced
spaced_both [] ms = refl
spaced_both (n ∷ ns) ms = rw (spaced_both ns ms, append_assoc (decimal n) (spaced ns) (spaced ms))

module _ (ns : List ℕ) (i : ℕ) (h : i < length ns) where
  pub spaced_turn : spaced (take i ns) ++ codes " " ++ decimal (get_or ns i 0) ≡ spaced (take (i + 1) ns)
  unfolding spaced
  spaced_turn =
      rw (add-one, take-suc ns i 0 h, spaced_both (take i ns) (get_or ns i 0 ∷ []), append-nil (decimal (get_or ns i 0)))
      (append_assoc (spaced (take i ns)) (codes " ") (decimal (get_or ns i 0)))

  pub spaced_room : length (spaced (take i ns)) + 1 + length (decimal (get_or ns i 0)) ≤ length (spaced ns)
  spaced_room =
      let whole : spaced (take (i + 1) ns) ++ spaced (drop (i + 1) ns) ≡ spaced ns = sym (spaced_both _ _) ∙ ap spaced (take-append-drop (i + 1) ns) in
      let long = ap length whole in
      let both = length-append (spaced (take (i + 1) ns)) (spaced (drop (i + 1) ns)) in
      let turn = ap length spaced_turn in
      let pair = length-append (spaced (take i ns) ++ codes " ") (decimal (get_or ns i 0)) in
      let first = length-append (spaced (take i ns)) (codes " ") in
      omega arith

pub line_length : (word ns : List ℕ) → length (line word ns) ≡ length word + (length (spaced ns) + 2)
unfolding line
line_length word ns = length-append word (spaced ns ++ codes ")\n") ∙ ap (λ (k : ℕ). length word + k) (length-append (spaced ns) (codes ")\n"))

-- ---- how long at most

pub spaced_most : (ns : List ℕ) → length (spaced ns) ≤ 21 * length ns
unfolding spaced
spaced_most [] = omega arith
spaced_most (n ∷ ns) =
    let first = decimal_most n in
    let rest = spaced_most ns in
    let both = length-append (decimal n) (spaced ns) in
    omega arith

pub line_most : (word ns : List ℕ) → length (line word ns) ≤ length word + (21 * length ns + 2)
line_most word ns =
    let long = line_length word ns in
    let most = spaced_most ns in
    omega arith

-- two numbers below 10,000
pub pair_most : (word : List ℕ) (m n : ℕ) → m < 10000 → n < 10000 → length (line word (m ∷ n ∷ [])) ≤ length word + 12
unfolding spaced
pair_most word m n h k =
    let long = line_length word (m ∷ n ∷ []) in
    let first = decimal_few 3 m h in
    let second = decimal_few 3 n k in
    let both = length-append (decimal m) (codes " " ++ (decimal n ++ [])) in
    let none = ap length (append-nil (decimal n)) in
    omega arith
