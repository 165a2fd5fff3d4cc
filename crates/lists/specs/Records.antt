-- Records in a lent list, and what is promised of a list that a call fills (01, "Where cancel.rs leans on Rust" and the
-- last sentences of "Questions"). A place is one record of `width` numbers. Definitions only.
use Rattle.std.specs.Prelude.{ℕ, suc, ◌*◌, ◌/◌, List, [], ◌∷◌, length, take, drop, Float}

-- the numbers after the last whole place of `width` numbers; they are no place
abbrev pub beyond_places : ℕ → List Float → List Float
beyond_places width l = drop (width * (length l / width)) l

-- What is promised of it: the records at its first places, as many as the call counts, the numbers after its last whole
-- place, and its length. Free are the list places past the count.
pub record Handed (A : Type 0) : Type 0 where
  pub records : List A
  pub rest : List Float
  pub size : ℕ

-- these records, with the rest and the length of the list l
unfoldable pub handed : {A : Type 0} → ℕ → List A → List Float → Handed A
handed width records l = record { records = records; rest = beyond_places width l; size = length l }

-- what a list hands out at its first `count` places of one number each: no number lies after its last place
unfoldable pub handed_numbers : List Float → ℕ → Handed Float
handed_numbers l count = handed 1 (take count l) l

-- Where places past the count keep what they held: the records, and all that lies after them, numbers or bytes.
pub record Keeping (N A : Type 0) : Type 0 where
  pub records : List A
  pub past : List N

unfoldable pub keeping : {N A : Type 0} → ℕ → List A → List N → Keeping N A
keeping width records l = record { records = records; past = drop (width * length records) l }

-- Records of `width` numbers stored one after the other from place p on. `put` stores one from a number on.
unfoldable pub stored_by : {N A : Type 0} → ℕ → (List N → ℕ → A → List N) → List N → ℕ → List A → List N
stored_by width put l p [] = l
stored_by width put l p (x ∷ xs) = stored_by width put (put l (width * p) x) (suc p) xs
