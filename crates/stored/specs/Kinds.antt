-- What a record is, by the number that it begins with, and a call by its place among the calls
-- (crates/replay/README.md). Definitions only.
use Rattle.std.specs.Prelude.{ℕ, ◌+◌, ◌≡◌, ◌≢◌, Result, MatchResult}
use Rattle.stored.specs.declared.kind.Call.{Call}
use Rattle.stored.specs.declared.kind.Call.TheVariants.{FindElements, FitElements, EstimateStrong, ResidualCheck, SecondCarrierEvidence, Classify, Subtract, Run}
use Rattle.stored.specs.declared.kind.Kind.{Kind}
use Rattle.stored.specs.declared.kind.Kind.TheVariants.{Recording, Floats, Left, LeftFloats, Elements, Fits, End, Stored, Meant}
use Rattle.stored.specs.declared.kind.Broken.{Broken}

-- a call's place
abbrev pub call_number : Call → ℕ
call_number FindElements = 0
call_number FitElements = 1
call_number EstimateStrong = 2
call_number ResidualCheck = 3
call_number SecondCarrierEvidence = 4
call_number Classify = 5
call_number Subtract = 6
call_number Run = 7

-- the number that a record of a kind begins with
abbrev pub kind_number : Kind → ℕ
kind_number Recording = 1
kind_number Floats = 2
kind_number Left = 3
kind_number LeftFloats = 4
kind_number Elements = 5
kind_number Fits = 6
kind_number End = 7
kind_number (Stored call) = 16 + call_number call
kind_number (Meant call) = 80 + call_number call

-- the call with this place, or an error where no call has it
abbrev pub CallOf : ℕ → Result Call Broken → Type 0
CallOf number r = MatchResult r (λ call. call_number call ≡ number) (λ _. (call : Call) → call_number call ≢ number)

-- the kind with this number, or an error where no kind has it
abbrev pub KindOf : ℕ → Result Kind Broken → Type 0
KindOf number r = MatchResult r (λ kind. kind_number kind ≡ number) (λ _. (kind : Kind) → kind_number kind ≢ number)
