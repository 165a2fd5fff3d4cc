-- A report is never longer than `ROOM`: at most 1,024 key lines of at most 16 bytes with their line ends, and the other
-- lines. Assumes nothing.
use Rattle.std.proofs.Common.{Some, None}
use Rattle.std.specs.declared.option.Option.{Option}
use Prim.Native.Nat.{ℕ, zero, suc, ◌-◌, ◌*◌, ◌/◌, ◌≤◌}
use native.Mathlib.Nat.{div-one}
use native.Mathlib.Omega.{arith}
use mathlib.Core.Path.{◌≡◌, refl, subst}
use mathlib.Core.Bool.{Bool, true, false}
use mathlib.Core.List.Memᴰ
use mathlib.Core.List.{List, [], ◌∷◌, Memᴰ}
use lib.ListN.{length, length-append}
use lib.Ieee.{Float, binary64, to_unsigned}
use Rattle.std.specs.Prelude.{codes}
use Rattle.float.proofs.Counts.{whole_back}
use Rattle.lists.proofs.Firsts.{length_firsts}
use Rattle.row.specs.Window.{step_of, step_blocks}
use Rattle.row.specs.Envelope.{row_of, row_length}
use Rattle.elements.specs.declared.element.KeyedElement.{KeyedElement}
use Rattle.elements.specs.Keying.{KeyDown, row_key_downs, element_of, listed_of, elements_of, elements_to}
use Rattle.elements.specs.Find.{threshold_of, elements_at, elements_found}
use Rattle.elements.proofs.KeyDowns.{members, listed_is}
use Rattle.elements.proofs.Recording.{listed_counted, all_counted, enough_places}
use Rattle.elements.proofs.Edges.{step_3000}
use Rattle.fits.specs.Estimate.{refined, strong_elements}
use Rattle.measure.specs.declared.hypothesis.Hypothesis.{Hypothesis}
use Rattle.measure.specs.declared.hypothesis.Hypothesis.TheVariants.{OneSignal, TwoSignalCw, NonCw, Unresolved}
use Rattle.engine.specs.declared.run.RunFigures.{RunFigures}
use Rattle.engine.specs.Run.{run_figures}
use Rattle.questions.specs.Questions.{first_no}
use Rattle.questions.proofs.FirstNo.{yes_at}
use Rattle.format.specs.Bytes.{bytes_ok, part_at}
use Rattle.format.proofs.Laws.{parts_few}
use Rattle.format.proofs.Lines.{line_most, pair_most}
use Rattle.lines.specs.Lines.{key_line, key_lines, hypothesis_line, buffer_line, count_lines, run_lines}
use Rattle.report.specs.Report.{RATE, HINT, ROOM, recording_of, refusal, answered, report_questions, report_of}
use Rattle.lines.proofs.Lengths.{count_length, run_length}

-- ---- the key lines

-- the positions of a listed element lie within its row
module _ (row : ℕ → Float) (thr : Float) (step : ℕ) (fs : Float) (j : ℕ) (h : j ≤ 2048) where
  placed_at : (k : KeyDown) → k.up ≤ j → k.down ≤ j → (to_unsigned 64 (element_of row thr step k).up ≤ j) × (to_unsigned 64 (element_of row thr step k).down ≤ j)
  unfolding element_of
  placed_at k u d = (rw (whole_back binary64 64 k.up (omega arith) (omega arith)) u, rw (whole_back binary64 64 k.down (omega arith) (omega arith)) d)

  placed : (e : KeyedElement) → Memᴰ e (elements_to row thr step fs j) → (to_unsigned 64 e.up ≤ j) × (to_unsigned 64 e.down ≤ j)
  unfolding elements_to elements_of
  placed e m =
      let from = Memᴰ.of_map (element_of row thr step) (listed_of row thr step fs (row_key_downs row thr j)) m in
      let is = (members row thr j from.0 ((listed_is row thr step fs (row_key_downs row thr j) from.0).0 from.1).0).0 in
      let rises : from.0.up ≤ j = omega (arith, is.later, is.within) in
      subst (λ (e : KeyedElement). (to_unsigned 64 e.up ≤ j) × (to_unsigned 64 e.down ≤ j)) from.2 (placed_at from.0 rises is.within)

short_lines : (es : List KeyedElement) → ((e : KeyedElement) → Memᴰ e es → length (key_line e) ≤ 16) → length (key_lines es) ≤ 16 * length es
unfolding key_lines
short_lines [] h = omega arith
short_lines (e ∷ es) h =
    let first = h e (Memᴰ.head refl) in
    let rest = short_lines es (λ d m. h d (Memᴰ.tail m)) in
    let both = length-append (key_line e) (key_lines es) in
    omega arith

module _ (iq : List Float) (few : length iq ≤ 4096) where
  -- step 1: B is at most 2,048
  pub blocks_few : step_blocks iq RATE ≤ 2048
  blocks_few = rw (step_3000, div-one (length iq / 2)) (omega arith)

  short_line : (e : KeyedElement) → Memᴰ e (strong_elements iq RATE HINT) → length (key_line e) ≤ 16
  unfolding strong_elements elements_found
  short_line e m = go (threshold_of iq RATE carrier) refl m
    where
      carrier : Float
      carrier = refined iq RATE HINT

      last_few : row_length iq RATE - 1 ≤ 2048
      last_few = let b = blocks_few in omega arith

      go : (t : Option Float) → threshold_of iq RATE carrier ≡ t → Memᴰ e (elements_at (row_of iq RATE carrier) (row_length iq RATE - 1) (step_of RATE) RATE t) → length (key_line e) ≤ 16
      go (Some thr) p m =
          let at = placed (row_of iq RATE carrier) thr (step_of RATE) RATE (row_length iq RATE - 1) last_few e m in
          let small = last_few in
          pair_most (codes "(key") (to_unsigned 64 e.up) (to_unsigned 64 e.down) (omega arith) (omega arith)
      go None p m = absurd (Memᴰ.not-nil m)

  -- floor(B/2) of them at most
  pub listed_few : length (strong_elements iq RATE HINT) ≤ 1024
  unfolding strong_elements
  listed_few =
      let carrier = refined iq RATE HINT in
      let counted = listed_counted iq RATE carrier in
      let all = all_counted iq RATE carrier in
      let most = enough_places iq RATE carrier in
      let blocks = blocks_few in
      omega arith

  keys_most : length (key_lines (strong_elements iq RATE HINT)) ≤ 16384
  keys_most =
      let each = short_lines (strong_elements iq RATE HINT) short_line in
      let few-of-them = listed_few in
      omega arith

-- ---- the other lines

counts_most : (f : RunFigures) → length (count_lines f) ≤ 302
counts_most f =
    let all = count_length f in
    let size = line_most (codes "(size") (f.samples ∷ f.window ∷ f.blocks ∷ []) in
    let keys = line_most (codes "(keys") (f.estimate.found.key_downs ∷ f.estimate.found.listed ∷ f.estimate.found.short ∷ f.estimate.fitted ∷ f.skipped ∷ []) in
    let air = line_most (codes "(air") (f.estimate.found.airtime ∷ []) in
    let blocks = line_most (codes "(blocks") (f.classes.edge ∷ f.classes.interior ∷ f.classes.gap ∷ f.classes.other ∷ []) in
    omega arith

hypothesis_most : (h : Hypothesis) → length (hypothesis_line h) ≤ 24
hypothesis_most OneSignal = omega arith
hypothesis_most (TwoSignalCw f) = omega arith
hypothesis_most NonCw = omega arith
hypothesis_most Unresolved = omega arith

buffer_most : (t : Bool) → length (buffer_line t) ≤ 16
buffer_most true = omega arith
buffer_most false = omega arith

pub refusal_most : (n : ℕ) → length (refusal n) ≤ ROOM
refusal_most n = let most = line_most (codes "(run") (n ∷ []) in omega arith

-- ---- the report

run_most : (iq : List Float) → length iq ≤ 4096 → (f : RunFigures) → length (run_lines f (strong_elements iq RATE HINT)) ≤ ROOM
run_most iq few f =
    let all = run_length f (strong_elements iq RATE HINT) in
    let counts = counts_most f in
    let keys = keys_most iq few in
    let hypothesis = hypothesis_most f.hypothesis in
    let buffer = buffer_most f.taken in
    omega arith

pub answered_most : (n : ℕ) (iq : List Float) → length iq ≤ 4096 → length (answered n iq) ≤ ROOM
unfolding answered
answered_most zero iq few = run_most iq few (run_figures iq RATE HINT)
answered_most (suc n) iq few = refusal_most (suc n)

pub recording_length : (bytes : List ℕ) → length (recording_of bytes) ≡ length bytes / 4
unfolding recording_of
recording_length bytes = length_firsts (part_at bytes) (length bytes / 4)

pub recording_few : (bytes : List ℕ) → bytes_ok (length bytes) ≡ true → length (recording_of bytes) ≤ 4096
recording_few bytes h = rw (recording_length bytes) (parts_few (length bytes) h)

-- Of every input, the report fits into a lent buffer.
pub report_fits : (bytes : List ℕ) → length (report_of bytes) ≤ ROOM
unfolding report_of answered
report_fits bytes = go (first_no (report_questions bytes)) refl
  where
    go : (n : ℕ) → first_no (report_questions bytes) ≡ n → length (answered n (recording_of bytes)) ≤ ROOM
    go zero e = answered_most zero (recording_of bytes) (recording_few bytes (yes_at (report_questions bytes) refl e 0))
    go (suc n) e = refusal_most (suc n)
