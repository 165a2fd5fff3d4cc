-- `replay::main` is safe and ends.
use Rattle.replay.proofs.Repeated.{repeated}
use Rattle.replay.proofs.main.Goals as goal

pub slice_bounds-read_full-end : goal.slice_bounds-read_full-end
slice_bounds-read_full-end c = repeated 1048577

pub slice_bounds-bytes-end : goal.slice_bounds-bytes-end
slice_bounds-bytes-end c = c.read_full-n.ensures.0

pub slice_bounds-replay-end : goal.slice_bounds-replay-end
slice_bounds-replay-end c = c.read_full-n.ensures.1
