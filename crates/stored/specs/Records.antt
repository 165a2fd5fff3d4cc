-- The records of a file (crates/replay/README.md): each is its kind's number, its length in units with these two, and
-- its body. Definitions only.
use Rattle.std.specs.Prelude.{ℕ, ◌*◌, ◌/◌, ◌≡◌, ◌≢◌, ◌<◌, ◌≤◌, ◌⊎◌, List, [], length, drop, take, Option, Result, MatchOption, MatchResult}
use Rattle.stored.specs.Units.{unit_in}
use Rattle.stored.specs.Kinds.{kind_number}
use Rattle.stored.specs.declared.kind.Kind.{Kind}
use Rattle.stored.specs.declared.kind.Broken.{Broken}
use Rattle.stored.specs.declared.records.Record.{Record}

-- how many units the first record says that it has
abbrev pub first_size : List ℕ → ℕ
first_size bytes = unit_in bytes 1

-- The first record of some bytes is whole and of some kind: its kind, its body and the bytes behind it.
pub record IsFirst (bytes : List ℕ) (kind : Kind) (body behind : List ℕ) : Type 0 where
  pub headed : 2 ≤ first_size bytes
  pub whole : first_size bytes ≤ length bytes / 4
  pub known : kind_number kind ≡ unit_in bytes 0
  pub holds : body ≡ drop 8 (take (4 * first_size bytes) bytes)
  pub left : behind ≡ drop (4 * first_size bytes) bytes

-- No record comes first: it has no place for its two units, it breaks off, or no kind has its number.
abbrev pub NoFirst : List ℕ → Type 0
NoFirst bytes = (first_size bytes < 2) ⊎ (length bytes / 4 < first_size bytes) ⊎ ((kind : Kind) → kind_number kind ≢ unit_in bytes 0)

-- What comes next of a file: nothing only where nothing is left; else the first record, or that there is none, and then
-- nothing follows.
abbrev pub Nexts : List ℕ → Option (Result Record Broken) → List ℕ → Type 0
Nexts rest r behind =
    MatchOption r (rest ≡ []) (λ x. MatchResult x (λ first. IsFirst rest first.kind first.body.now behind) (λ _. NoFirst rest × (behind ≡ [])))
