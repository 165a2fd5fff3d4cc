-- `trig::circle::Sines::within_seven` meets its contract: each callee's answer in its place.
use Rattle.trig.specs.Circle.{sin_of, cos_of}
use Rattle.trig.proofs.Quarters.{further}
use Rattle.trig.proofs.circle.Sines.within_seven.Goals as goal

pub returns : goal.returns
unfolding sin_of cos_of
returns c = (
  simp (
    c.sine_at-w.ensures,
    c.sine_at-v.ensures,
    c.small_cosine-c.ensures,
    c.small_sine-s.ensures,
    c.turned-p.ensures.0,
    c.turned-p.ensures.1,
    c.requires,
    further,
  ),
  simp (
    c.sine_at-w.ensures,
    c.sine_at-v.ensures,
    c.small_cosine-c.ensures,
    c.small_sine-s.ensures,
    c.turned-p.ensures.0,
    c.turned-p.ensures.1,
    c.requires,
    further,
  ),
)
