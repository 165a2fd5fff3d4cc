-- `stored::tally::Tally::count_at` meets its contract: each place is one of a row's, or that of a count of its own.
use Rattle.std.proofs.Common.{sym, ◌∙◌, ◌+◌, ◌-◌, arith}
use Rattle.stored.specs.Tally.{CALLS, NUMBERS, HYPOTHESES, ASKED, EQUAL, STORED, MEANT, REFUSED, HYPOTHESIS, TAKEN, CHANGED, ENDS, BROKEN}
use Rattle.stored.proofs.Places.{at_place, at_stored_asked, at_stored_equal, at_meant_asked, at_meant_equal, at_refused, at_hypotheses, at_taken, at_changed, at_ends, at_broken}
use Rattle.stored.proofs.tally.Tally.count_at.Goals as goal

pub returns-then-i-lt-EQUAL : goal.returns-then-i-lt-EQUAL
returns-then-i-lt-EQUAL c =
    rw (c.add.ensures.row_is, c.add.ensures.broken_is) (sym (at_place _ _ _ _ _ _ c.place-i.ensures.value (STORED + ASKED) CALLS c.place-i.result (omega arith) (omega arith) (omega arith) ∙ at_stored_asked c.args.self.now (grind arith) c.place-i.result c.args.more))

pub returns-then-i-lt-MEANT : goal.returns-then-i-lt-MEANT
returns-then-i-lt-MEANT c =
    rw (c.add-then-i-lt-MEANT.ensures.row_is, c.add-then-i-lt-MEANT.ensures.broken_is) (sym (at_place _ _ _ _ _ _ c.place-i.ensures.value (STORED + EQUAL) CALLS (c.place-i.result - (STORED + EQUAL)) (omega arith) (omega arith) (omega arith) ∙ at_stored_equal c.args.self.now (grind arith) (c.place-i.result - (STORED + EQUAL)) c.args.more))

pub returns-then-i : goal.returns-then-i
returns-then-i c =
    rw (c.add-then-i.ensures.row_is, c.add-then-i.ensures.broken_is) (sym (at_place _ _ _ _ _ _ c.place-i.ensures.value (MEANT + ASKED) CALLS (c.place-i.result - (MEANT + ASKED)) (omega arith) (omega arith) (omega arith) ∙ at_meant_asked c.args.self.now (grind arith) (c.place-i.result - (MEANT + ASKED)) c.args.more))

pub returns-then-i-lt-REFUSED : goal.returns-then-i-lt-REFUSED
returns-then-i-lt-REFUSED c =
    rw (c.add-then-i-lt-REFUSED.ensures.row_is, c.add-then-i-lt-REFUSED.ensures.broken_is) (sym (at_place _ _ _ _ _ _ c.place-i.ensures.value (MEANT + EQUAL) CALLS (c.place-i.result - (MEANT + EQUAL)) (omega arith) (omega arith) (omega arith) ∙ at_meant_equal c.args.self.now (grind arith) (c.place-i.result - (MEANT + EQUAL)) c.args.more))

pub returns-then-i-lt-HYPOTHESIS : goal.returns-then-i-lt-HYPOTHESIS
returns-then-i-lt-HYPOTHESIS c =
    rw (c.add-then-i-lt-HYPOTHESIS.ensures.row_is, c.add-then-i-lt-HYPOTHESIS.ensures.broken_is) (sym (at_place _ _ _ _ _ _ c.place-i.ensures.value REFUSED NUMBERS (c.place-i.result - REFUSED) (omega arith) (omega arith) (omega arith) ∙ at_refused c.args.self.now (grind arith) (c.place-i.result - REFUSED) c.args.more))

pub returns-then-i-lt-TAKEN : goal.returns-then-i-lt-TAKEN
returns-then-i-lt-TAKEN c =
    rw (c.add-then-i-lt-TAKEN.ensures.row_is, c.add-then-i-lt-TAKEN.ensures.broken_is) (sym (at_place _ _ _ _ _ _ c.place-i.ensures.value HYPOTHESIS HYPOTHESES (c.place-i.result - HYPOTHESIS) (omega arith) (omega arith) (omega arith) ∙ at_hypotheses c.args.self.now (grind arith) (c.place-i.result - HYPOTHESIS) c.args.more))

pub returns-then-i-eq-TAKEN : goal.returns-then-i-eq-TAKEN
returns-then-i-eq-TAKEN c =
    rw c.saturating_add-self.ensures (sym (at_place _ _ _ _ _ _ c.place-i.ensures.value TAKEN 1 0 (omega arith) (omega arith) (omega arith) ∙ at_taken c.args.self.now (grind arith) 0 c.args.more))

pub returns-then-i-eq-CHANGED : goal.returns-then-i-eq-CHANGED
returns-then-i-eq-CHANGED c =
    rw c.saturating_add-self-then-i-eq-CHANGED.ensures (sym (at_place _ _ _ _ _ _ c.place-i.ensures.value CHANGED 1 0 (omega arith) (omega arith) (omega arith) ∙ at_changed c.args.self.now (grind arith) 0 c.args.more))

pub returns-then-i-eq-ENDS : goal.returns-then-i-eq-ENDS
returns-then-i-eq-ENDS c =
    rw c.saturating_add-self-then-i-eq-ENDS.ensures (sym (at_place _ _ _ _ _ _ c.place-i.ensures.value ENDS 1 0 (omega arith) (omega arith) (omega arith) ∙ at_ends c.args.self.now (grind arith) 0 c.args.more))

pub returns-else-i-eq-ENDS : goal.returns-else-i-eq-ENDS
returns-else-i-eq-ENDS c =
    rw c.saturating_add-self-else-i-eq-ENDS.ensures (sym (at_place _ _ _ _ _ _ c.place-i.ensures.value BROKEN 1 0 (omega arith) (omega arith) (omega arith) ∙ at_broken c.args.self.now (grind arith) 0 c.args.more))
