-- The invariant: i amplitudes are stored, and the running sum is the specification's number i.
use Rattle.std.proofs.Common.{◌≡◌, ◌+◌, ◌-◌, ◌<◌, length, arith}
use Rattle.std.proofs.lemmas.List.{length-take-le}
use Rattle.lists.proofs.Fill.{fill_none, fill_turn0}
use Rattle.row.proofs.Running.{run_none, run_turn, amplitude_is, row_done}
use Rattle.row.proofs.envelope.running.Goals as goal

pub loop-i-init : goal.loop-i-init
loop-i-init c = (run_none _ _ c.sum-run.ensures, fill_none _ 0 _)

pub loop-i-preserved : goal.loop-i-preserved
loop-i-preserved c =
    let inv = c.loop-i.invariant in (
      run_turn _ _ _ _ inv.0 c.moved-run.ensures,
      fill_turn0 _ _ c.loop-i.i _ _ inv.1 (amplitude_is _ c.loop-i.i c.loop-i.i _ _ _ inv.0 c.div_real.ensures c.norm.ensures (omega arith) (omega arith)),
    )

pub returns : goal.returns
returns c =
    let inv = c.loop-i.invariant in
    let n = c.args.b - 8 in
    let all : n + 1 ≡ c.args.b - 7 = omega arith in
    let few : n < length c.args.row.now = omega arith in
    let size = length-take-le n c.args.row.now (omega arith) in
    rw all at (row_done _ _ _ _ n _ few inv.1 (omega arith) (omega arith) (amplitude_is _ _ n _ _ _ inv.0 c.div_real-2.ensures c.norm-2.ensures (omega arith) (omega arith)))
