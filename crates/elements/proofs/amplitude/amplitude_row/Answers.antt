use Rattle.std.proofs.Common.{◌≤◌, length, arith, sym}
use Rattle.std.proofs.lemmas.List.{length-take-le}
use Rattle.elements.proofs.Amplitudes.{row_size, row_few, row_made}
use Rattle.elements.proofs.amplitude.amplitude_row.Goals.{After-make_row-made}
use Rattle.elements.proofs.amplitude.amplitude_row.Goals as goal

room : (c : After-make_row-made) → length c.make_row-made.result.now ≤ length c.args.row.now
room c = let size = row_size _ _ _ _ c.make_row-made.ensures in omega arith

pub slice_bounds-copy-end : goal.slice_bounds-copy-end
slice_bounds-copy-end c = room (goal.at.slice_bounds-copy-end c).After-make_row-made

pub slice_bounds-copy-end-2 : goal.slice_bounds-copy-end-2
slice_bounds-copy-end-2 c = sym (length-take-le _ _ (room (goal.at.slice_bounds-copy-end-2 c).After-make_row-made))

pub copy-requires : goal.copy-requires
copy-requires c = length-take-le _ _ (room (goal.at.copy-requires c).After-make_row-made)

pub row_threshold-requires : goal.row_threshold-requires
row_threshold-requires c =
    let few = row_few _ _ _ _ c.make_row-made.ensures c.args.recording.now.samples.accepted in
    omega arith

pub returns : goal.returns
returns c =
    rw c.copy.ensures
    (row_made _ _ _ _ _ _ c.make_row-made.ensures c.requires.row_in_bounds c.row_threshold.ensures)
