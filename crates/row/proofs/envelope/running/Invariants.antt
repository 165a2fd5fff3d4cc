use Rattle.std.proofs.Common.{◌≡◌}
use Rattle.complex.specs.Rows.{z_at}
use Rattle.lists.specs.Fill.{fill}
use Rattle.row.specs.Envelope.{running_sum, amplitude}
use Rattle.row.proofs.envelope.running.Given as goal

abbrev pub invariant-loop-i : goal.invariant-loop-i
invariant-loop-i l =
    (l.run ≡ running_sum (z_at l.means) l.i) × (l.amplitude-items ≡ fill l.initial.amplitude-items 0 (amplitude (z_at l.means)) l.i)
