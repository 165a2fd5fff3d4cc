use Rattle.row.proofs.Rows.{row_stored}
use Rattle.std.proofs.Common.{sym, ◌∙◌, arith}
use Rattle.row.proofs.envelope.amplitudes.Goals as goal

pub returns : goal.returns
returns c =
    let stored = c.block_means-b.ensures in
    let parts = c.split_at_mut-means.ensures in
    row_stored _ _ _ _ _ _ _ stored.0 (sym parts.value ∙ stored.1) parts.front_len c.running.ensures (omega arith) (omega arith)
