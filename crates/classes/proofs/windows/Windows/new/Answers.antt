use Rattle.classes.proofs.Sizes.{window_small}
use Rattle.classes.proofs.windows.Windows.new.Goals as goal

pub invariant_of-result : goal.invariant_of-result
invariant_of-result c = record { is_window = c.window.ensures; short = window_small _ _ c.args.rate.accepted c.window.ensures }
