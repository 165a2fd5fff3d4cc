-- Where a reading goes on, by what the read answered. Assumes nothing.
use Prim.Native.Nat.{ℕ, zero, suc, ◌+◌, ◌<◌}
use native.Mathlib.Omega.{arith}
use mathlib.Core.Path.{◌≡◌, refl}
use mathlib.Core.Bool.{Bool, true, false}
use lib.Dec.{ltb}
use borrow.Author.Tests.{ltb-true}
use Rattle.std.specs.Prelude.{None, Some}
use Rattle.std.specs.declared.option.Option.{Option}
use Rattle.format.specs.declared.reads.Read.{Read}
use Rattle.format.specs.declared.reads.Reading.TheVariants.{More}
use Rattle.format.specs.Input.{room_for, answer_of, reading_of}

-- where the reading goes on, more bytes are there than before, and there is room for more
on_by_room : (n m room : ℕ) (b : Bool) → ltb m room ≡ b → More n ≡ room_for b m → (n ≡ m) × (m < room)
on_by_room n m room true t e = (cc, ltb-true m room t)
on_by_room n m room false t e = let z : ◌≡◌ {A = ℕ} 0 1 = cc in absurd (omega arith)

on_by_answer : (n room there : ℕ) (answer : Option ℕ) → More n ≡ answer_of room there answer → (there < n) × (n < room)
on_by_answer n room there None e = let z : ◌≡◌ {A = ℕ} 0 1 = cc in absurd (omega arith)
on_by_answer n room there (Some zero) e = let z : ◌≡◌ {A = ℕ} 0 1 = cc in absurd (omega arith)
on_by_answer n room there (Some (suc k)) e =
    let on = on_by_room n (there + suc k) room (ltb (there + suc k) room) refl e in
    (omega arith, omega arith)

pub goes_on_lem : (n : ℕ) (read : Read) → More n ≡ reading_of read → (read.there < n) × (n < read.room)
unfolding reading_of
goes_on_lem n read e = on_by_answer n read.room read.there read.answer e
