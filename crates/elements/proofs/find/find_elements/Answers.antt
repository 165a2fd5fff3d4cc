use Rattle.std.proofs.Common.{arith, sym, ◌∙◌}
use Rattle.row.proofs.Steps.{step_high}
use Rattle.elements.proofs.Amplitudes.{row_size, row_few}
use Rattle.elements.proofs.Ways.{way_none, way_low, way_found}
use Rattle.elements.proofs.find.find_elements.Goals as goal

pub percentile-requires : goal.percentile-requires
percentile-requires c =
    let few = row_few _ _ _ _ c.make_row-row.ensures c.args.recording.now.samples.accepted in
    omega arith

pub returns-in_default : goal.returns-in_default
returns-in_default c = way_none _ _ _ _ c.make_row-row.ensures _ c.percentile.ensures _ c.in_default.is

pub returns-in_default-half_of : goal.returns-in_default-half_of
returns-in_default-half_of c =
    way_low _ _ _ _ c.make_row-row.ensures _ c.percentile.ensures _ _ c.in-Some.is (sym c.in_default-half_of.is ∙ c.half_of.ensures)

pub invariant_of-walk : goal.invariant_of-walk
invariant_of-walk c =
    let few = row_few _ _ _ _ c.make_row-row.ensures c.args.recording.now.samples.accepted in
    let high = step_high _ c.args.recording.now.rate.accepted in
    record { few = omega arith; near = omega (arith, c.step.ensures) }

pub scan-requires : goal.scan-requires
scan-requires c = let size = row_size _ _ _ _ c.make_row-row.ensures in omega arith

pub returns : goal.returns
returns c =
    way_found _ _ _ _ c.make_row-row.ensures _ c.percentile.ensures _ _ _ _ _ _ c.requires.elements_in_bounds c.step.ensures c.in-Some.is (sym c.in-Some-half_of.is ∙ c.half_of.ensures) c.scan.ensures
