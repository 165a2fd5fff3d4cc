-- `report::answer::put_report` meets its contract: no input is too long for its buffers.
use borrow.Author.Rules.{rules}
use mathlib.Core.Path.{◌≡◌, sym, ◌∙◌}
use lib.ListN.{length, take}
use Rattle.format.proofs.Laws.{parts_few}
use Rattle.report.specs.Report.{recording_of}
use Rattle.report.proofs.Room.{recording_length, recording_few}
use Rattle.report.proofs.Asks.{report_refused, report_answered, whole_samples, recording_read}
use Rattle.report.proofs.answer.put_report.Goals as goal

pub refused-requires : goal.refused-requires
refused-requires c = rw (report_refused c.args.bytes.now (sym c.bytes_ok.ensures ∙ c.if-not-bytes_ok.true)) at c.requires

pub returns-then-not-bytes_ok : goal.returns-then-not-bytes_ok
returns-then-not-bytes_ok c = rw (report_refused c.args.bytes.now (sym c.bytes_ok.ensures ∙ c.if-not-bytes_ok.true)) c.refused.ensures

pub samples-parts-requires : goal.samples-parts-requires
samples-parts-requires c = parts_few _ (sym c.bytes_ok.ensures ∙ c.if-not-bytes_ok.false)

pub slice_bounds-iq-end : goal.slice_bounds-iq-end
slice_bounds-iq-end c = let most = parts_few _ (sym c.bytes_ok.ensures ∙ c.if-not-bytes_ok.false) in search rules

pub slice_bounds-of_recording-end : goal.slice_bounds-of_recording-end
slice_bounds-of_recording-end c = let most = parts_few _ (sym c.bytes_ok.ensures ∙ c.if-not-bytes_ok.false) in search rules

pub of_recording-requires : goal.of_recording-requires
of_recording-requires c =
    let bytes = c.args.bytes.now in
    let accepted = sym c.bytes_ok.ensures ∙ c.if-not-bytes_ok.false in
    let read : take c.samples-parts.result c.samples-parts.new.out ≡ recording_of bytes =
    rw (c.samples-parts.ensures.value, c.samples-parts.ensures.out_after) (recording_read _ _ (parts_few _ accepted)) in
    let even = whole_samples (length bytes) accepted in
    let size = recording_length bytes in
    let most = recording_few bytes accepted in
    record { iq_len = rw read (rw size even); iq_len_bound = rw read most; in_bounds = rw read (rw (report_answered bytes accepted) at c.requires) }

pub returns : goal.returns
returns c =
    let bytes = c.args.bytes.now in
    let accepted = sym c.bytes_ok.ensures ∙ c.if-not-bytes_ok.false in
    let read : take c.samples-parts.result c.samples-parts.new.out ≡ recording_of bytes =
    rw (c.samples-parts.ensures.value, c.samples-parts.ensures.out_after) (recording_read _ _ (parts_few _ accepted)) in
    rw (report_answered bytes accepted) (rw read at c.of_recording.ensures)
