-- What is counted, and where (crates/replay/README.md). Definitions only.
use Rattle.std.specs.Prelude.{ℕ, ◌+◌, ◌-◌, ◌^◌, min, Bool, cond, not, ◌&&◌, List, [], ◌∷◌, ◌++◌, ◌==◌, nat_lt, slice_index, slice_set}
use Rattle.stored.specs.declared.tally.Tally.{Tally}

-- ---- as many calls, numbers of a refusal and hypotheses as there is room for
abbrev pub CALLS : ℕ
CALLS = 24

abbrev pub NUMBERS : ℕ
NUMBERS = 20

abbrev pub HYPOTHESES : ℕ
HYPOTHESES = 4

-- ---- a group of cases: how many were asked, call by call, and how many of them are equal
abbrev pub ASKED : ℕ
ASKED = 0

abbrev pub EQUAL : ℕ
EQUAL = ASKED + CALLS

abbrev pub GROUP : ℕ
GROUP = EQUAL + CALLS

-- ---- where each begins: the two groups, those with the Rust's answer and those that are meant to differ; refusals;
-- accepted runs by their hypothesis; those that said taken, the samples that they changed; ends; what is broken
abbrev pub STORED : ℕ
STORED = 0

abbrev pub MEANT : ℕ
MEANT = STORED + GROUP

abbrev pub REFUSED : ℕ
REFUSED = MEANT + GROUP

abbrev pub HYPOTHESIS : ℕ
HYPOTHESIS = REFUSED + NUMBERS

abbrev pub TAKEN : ℕ
TAKEN = HYPOTHESIS + HYPOTHESES

abbrev pub CHANGED : ℕ
CHANGED = TAKEN + 1

abbrev pub ENDS : ℕ
ENDS = CHANGED + 1

abbrev pub BROKEN : ℕ
BROKEN = ENDS + 1

-- how many places there are
abbrev pub PLACES : ℕ
PLACES = BROKEN + 1

-- the place that is k after the first of its kind, of which there are so many; what has none is broken
unfoldable pub place_of : ℕ → ℕ → ℕ → ℕ
place_of first places k = cond (nat_lt k places && nat_lt (first + k) PLACES) (first + k) BROKEN

-- more is added there, up to the largest number
unfoldable pub plus : ℕ → ℕ → ℕ → ℕ → List ℕ → List ℕ
plus first places k more t = slice_set t (place_of first places k) (min (slice_index t (place_of first places k) + more) (2 ^ 64 - 1))

-- a case of a call in a group: it was asked, and it is equal or not
unfoldable pub asked_in : ℕ → ℕ → Bool → List ℕ → List ℕ
asked_in group call equal t = plus (group + EQUAL) CALLS call (cond equal 1 0) (plus (group + ASKED) CALLS call 1 t)

-- a case of a call: in its group, and its number unless it is meant to differ
unfoldable pub counted_of : ℕ → Bool → Bool → ℕ → List ℕ → List ℕ
counted_of call meant equal number t =
    plus REFUSED NUMBERS number (cond (not meant) 1 0) (asked_in (cond meant MEANT STORED) call equal t)

-- what a run that is not meant to differ adds to that: its hypothesis where it is accepted; whether it said taken,
-- and the samples that it changed
unfoldable pub ran_of : ℕ → ℕ → Bool → ℕ → List ℕ → List ℕ
ran_of number hypothesis taken changed t =
    plus CHANGED 1 0 (cond taken changed 0) (plus TAKEN 1 0 (cond taken 1 0) (plus HYPOTHESIS HYPOTHESES hypothesis (cond (number == 0) 1 0) t))

-- ---- the program's counts, which have names, in the order of those places
abbrev pub counts : Tally → List ℕ
counts t =
    t.stored.asked ++ (t.stored.equal ++ (t.meant.asked ++ (t.meant.equal ++ (t.refused ++ (t.hypotheses ++ (t.taken ∷ t.changed ∷ t.ends ∷ t.broken ∷ []))))))
