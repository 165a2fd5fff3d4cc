-- The laws that a proof's `search laws` goes by.
use Prim.Native.Nat.{ℕ, ◌/◌, ◌%◌, ◌≤◌}
use native.Mathlib.Omega.{arith}
use mathlib.Core.Path.{◌≡◌, refl, sym, ap, ◌∙◌}
use mathlib.Core.Bool.{true, false, and-false}
use mathlib.Core.List.{List, ◌++◌}
use lib.Dec.{leb, eqb}
use lib.Ieee.{Float}
use lib.ListN.{length, take, drop, take-append-drop}
use lib.Seq.{length-take-le}
use borrow.Author.Rules.{rules}
use borrow.Author.Tests.{leb-true, lt-leb}
use Rattle.io.specs.Counts.{IsPrefixLen}
use Rattle.lists.proofs.Every.{and_right}
use Rattle.lists.specs.Fill.{fill}
use Rattle.lists.proofs.Fill.{fill_none, fill_turn0, fill_front}
use Rattle.format.specs.Bytes.{bytes_ok, INPUT}

-- an accepted recording has at most 4,096 parts
pub parts_few : (n : ℕ) → bytes_ok n ≡ true → n / 4 ≤ 4096
unfolding bytes_ok
parts_few n h = let most = leb-true n 16384 (and_right (eqb (n % 8) 0) (leb n 16384) h) in omega arith

-- a full array holds more than a recording may have
pub too_many : (n : ℕ) → INPUT ≤ n → bytes_ok n ≡ false
unfolding bytes_ok
too_many n h = rw (lt-leb n 16384 (omega arith)) (and-false (eqb (n % 8) 0))

-- as many bytes as there are, at the start of a buffer
pub counts : (r : ℕ) (out : List ℕ) → r ≤ length out → IsPrefixLen r out
counts r out h = (h, sym (length-take-le r out h))

-- after the loop that stores a row in the first part of a list
pub fill_part : (l cur : List Float) (f : ℕ → Float) (n i : ℕ) → n ≤ length l → length (take n l) ≤ i → i ≤ length (take n l) → cur ≡ fill (take n l) 0 f i
    → cur ++ drop n l ≡ fill l 0 f n
fill_part l cur f n i h few many p =
    let long = length-take-le n l h in
    let all : i ≡ n = omega arith in
    rw (p, all) (fill_front (take n l) (drop n l) f n (omega arith) ∙ ap (λ (m : List Float). fill m 0 f n) (take-append-drop n l))

pub ruleset laws = (rules, fill_none, fill_turn0, fill_part)
