-- `rank::select::select` meets its contract.
use Rattle.std.proofs.Common.{◌≡◌, ◌^◌, sym, ◌∙◌, arith}
use Rattle.std.proofs.Math.Nat.{le_refl}
use Rattle.std.proofs.lemmas.Nat.{pow_pos}
use Rattle.rank.specs.Inner.{RankIn}
use Rattle.rank.proofs.Counted.{within_all, within_parts, within_turn, within_one, digit_room}
use Rattle.rank.proofs.Narrowed.{rank_narrowed}
use Rattle.rank.proofs.Sorted.{selected}
use Rattle.rank.proofs.select.select.Goals as goal
use Rattle.rank.proofs.select.select.Goals.{After-cell-cell, then-alike, else-alike}

next : (c : After-cell-cell) → RankIn c.args.v.now (2 ^ c.cell-cell.result.shift) c.args.rank c.cell-cell.result.prefix c.pass-place.result.left
next c =
    let e = c.digits-digits.ensures in
    rw (c.cell-cell.ensures.shift, c.cell-cell.ensures.prefix) (within_turn (rw e.prefix (within_parts _ _ _ e.shift c.loop-cell.invariant.1)) c.pass-place.ensures)

pub narrowed-cell-requires : goal.narrowed-cell-requires
narrowed-cell-requires c = omega (arith, (within_all c.args.v.now c.type_inv.v c.requires.rank_in_bounds).inside)

pub loop-cell-init : goal.loop-cell-init
loop-cell-init c =
    let a = within_all c.args.v.now c.type_inv.v c.requires.rank_in_bounds in
    elim c.if-alike.branch [ then-alike w ↦ rw w.cell-is (w.narrowed-cell.ensures.shorter, rank_narrowed w.narrowed-cell.ensures a) | else-alike w ↦ rw w.cell-is (le_refl 64, a) ]

pub pass-place-requires : goal.pass-place-requires
pass-place-requires c = let e = c.digits-digits.ensures in rw e.prefix (within_parts _ _ _ e.shift c.loop-cell.invariant.1).inside

pub cell-cell-requires : goal.cell-cell-requires
cell-cell-requires c = digit_room c.args.v.now c.type_inv.v c.pass-place.ensures

pub returns-then-place-eq1 : goal.returns-then-place-eq1
returns-then-place-eq1 c =
    let n = next (goal.at.returns-then-place-eq1 c).After-cell-cell in
    selected c.args.v.now c.type_inv.v c.requires.rank_in_bounds
    (within_one (pow_pos c.cell-cell.result.shift) n (rw (c.cell-cell.ensures.shift, c.cell-cell.ensures.prefix) (sym c.pass-place.ensures.all ∙ c.if-place-eq1.true)) c.find.ensures)

pub loop-cell-preserved-then-many-place : goal.loop-cell-preserved-then-many-place
loop-cell-preserved-then-many-place c =
    (omega arith, rank_narrowed c.narrowed-cell-then-many-place.ensures (next (goal.at.loop-cell-preserved-then-many-place c).After-cell-cell))

pub loop-cell-preserved : goal.loop-cell-preserved
loop-cell-preserved c = (omega arith, next (goal.at.loop-cell-preserved c).After-cell-cell)

pub returns : goal.returns
returns c =
    let z : c.loop-cell.cell.shift ≡ 0 = omega arith in
    selected c.args.v.now c.type_inv.v c.requires.rank_in_bounds (rw z at c.loop-cell.invariant.1)
