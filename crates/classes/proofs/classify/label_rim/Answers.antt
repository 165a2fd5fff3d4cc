use native.Mathlib.Nat.{mul-le-mul}
use native.Mathlib.Omega.{arith}
use borrow.Author.Rules.{rules}
use Rattle.classes.proofs.Zones.{rimmed, rim_is}
use Rattle.classes.proofs.classify.label_rim.Goals as goal

pub label_where-requires-clause-starts_bound : goal.label_where-requires-clause-starts_bound
label_where-requires-clause-starts_bound c = omega (arith, mul-le-mul c.requires.class_len_bound c.args.w.short)

pub returns : goal.returns
returns c =
    rim_is _ _ _ c.args.w.is_window _ _ _ _ c.exact.ensures (c.label_where.ensures (rimmed c.args.w.rate.hz c.exact.result) (λ k t h. search rules))
