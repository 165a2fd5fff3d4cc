-- When what a call answered and left is what is stored of it. Definitions only.
use Rattle.std.specs.Prelude.{ℕ, ◌-◌, ◌%◌, Bool, cond, ◌&&◌, ◌≡◌, List, length, ◌==◌, Float, Some, None, MatchResult}
use Rattle.stored.specs.declared.answer.Answered.{Answered}
use Rattle.stored.specs.declared.answer.Ran.{Ran}
use Rattle.stored.specs.Same.{same_firsts, same_figures, lent_from}

-- a refusal: by the stored number, and every list and the work slice as lent
unfoldable pub refused_same : ℕ → ℕ → List Float → List Float → List Float → Bool
refused_same stored number elements fits work = number == stored && lent_from elements 0 && lent_from fits 0 && lent_from work 0

-- a refusal leaves the buffer
unfoldable pub kept_same : ℕ → ℕ → List Float → List Float → Bool
kept_same stored number buf iq = number == stored && same_firsts buf iq (length buf)

-- an accepted call's figures: the Rust accepts it too, and its figures are the same
unfoldable pub figured_same : ℕ → List Float → List ℕ → Bool
figured_same stored figures body = stored == 0 && same_figures figures body

-- a list of records of some width: the stored numbers, and what follows the last whole record as lent
unfoldable pub filled_same : List Float → ℕ → List Float → ℕ → Bool
filled_same list width stored n = same_firsts list stored n && lent_from list (length list - length list % width)

-- the buffer after an accepted call: as stored where the Rust changes it, else as it was
unfoldable pub left_same : ℕ → Bool → List Float → List Float → List Float → Bool
left_same stored changed buf iq left = stored == 0 && same_firsts buf (cond changed left iq) (length buf)

-- what came of a run, as of any call: the same verdict, and its number where it is refused
abbrev pub AnsweredBy : Ran → Answered → Type 0
AnsweredBy ran a = (a.equal ≡ ran.equal) × MatchResult ran.answer (λ _. a.refused ≡ None) (λ no. a.refused ≡ Some no)
