use Rattle.constants.proofs.Bits.{rise_bits}
use Rattle.synth.specs.Span.{span_of}
use Rattle.synth.proofs.span.fit_span.Goals as goal

pub returns : goal.returns
unfolding span_of
returns c = rw (
  rise_bits,
  c.min.ensures,
  c.min-hi.ensures,
  c.to_whole-past.ensures,
  c.max-2.ensures,
  c.ceil.ensures,
  c.to_whole-lo.ensures,
  c.max.ensures,
  c.floor.ensures,
)
