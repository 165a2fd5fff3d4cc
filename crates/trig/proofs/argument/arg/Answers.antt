-- `trig::argument::arg` meets its contract.
use Rattle.trig.specs.Argument.{arg_of}
use Rattle.trig.proofs.argument.arg.Goals.{then-re+else-im, else-re}
use Rattle.trig.proofs.argument.arg.Goals as goal

pub returns-then-im : goal.returns-then-im
unfolding arg_of
returns-then-im c = rw (c.if-re.true, c.if-im.true)

pub returns : goal.returns
unfolding arg_of
returns c =
    elim c.if-re.branch [ then-re+else-im w ↦ rw (c.nonzero.ensures, w.if-re.true, w.if-im.false) | else-re w ↦ rw (c.nonzero.ensures, w.if-re.false) ]
