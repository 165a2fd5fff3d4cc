-- How long the parts of a report are. Assumes nothing.
use Prim.Native.Nat.{ℕ, ◌+◌}
use mathlib.Core.Path.{◌≡◌, ap, ◌∙◌}
use mathlib.Core.List.{List, ◌++◌}
use lib.ListN.{length, length-append}
use Rattle.std.specs.Prelude.{codes}
use Rattle.elements.specs.declared.element.KeyedElement.{KeyedElement}
use Rattle.engine.specs.declared.run.RunFigures.{RunFigures}
use Rattle.lines.specs.Lines.{size_line, keys_line, air_line, blocks_line, key_lines, hypothesis_line, buffer_line, count_lines, run_lines}

pub count_length : (f : RunFigures) → length (count_lines f)
    ≡ length (size_line f.samples f.window f.blocks) + (length (keys_line f.estimate.found f.estimate.fitted f.skipped)
    + (length (air_line f.estimate.found.airtime) + length (blocks_line f.classes)))
unfolding count_lines
count_length f =
    let size = size_line f.samples f.window f.blocks in
    let keys = keys_line f.estimate.found f.estimate.fitted f.skipped in
    let air = air_line f.estimate.found.airtime in
    let blocks = blocks_line f.classes in
    length-append size (keys ++ (air ++ blocks))
    ∙ ap (λ (k : ℕ). length size + k) (length-append keys (air ++ blocks) ∙ ap (λ (k : ℕ). length keys + k) (length-append air blocks))

pub run_length : (f : RunFigures) (es : List KeyedElement) → length (run_lines f es)
    ≡ 7 + (length (count_lines f) + (length (key_lines es) + (length (hypothesis_line f.hypothesis) + length (buffer_line f.taken))))
unfolding run_lines
run_length f es =
    let counts = count_lines f in
    let keys = key_lines es in
    let hypothesis = hypothesis_line f.hypothesis in
    let buffer = buffer_line f.taken in
    length-append (codes "(run 0\n") (counts ++ (keys ++ (hypothesis ++ buffer)))
    ∙ ap (λ (k : ℕ). 7 + k)
    (length-append counts (keys ++ (hypothesis ++ buffer))
    ∙ ap (λ (k : ℕ). length counts + k) (length-append keys (hypothesis ++ buffer) ∙ ap (λ (k : ℕ). length keys + k) (length-append hypothesis buffer)))
