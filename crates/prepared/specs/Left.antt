-- What is left of the blocks' means once the fits are taken off them (01, part 6: the loop over the fits in
-- `residual_check`), said block by block. Definitions only.
use Rattle.std.specs.Prelude.{ℕ, zero, suc, ◌+◌, ◌-◌, ◌*◌, min, max, List, [], ◌∷◌, Float}
use Rattle.float.specs.Ops.{of}
use Rattle.complex.specs.declared.value.Complex.{Complex}
use Rattle.complex.specs.Value.{c_sub, c_div}
use Rattle.row.specs.Window.{window_of}
use Rattle.fits.specs.declared.fit.ElementFit.{ElementFit}
use Rattle.row.specs.declared.span.Span.{Span}
use Rattle.synth.specs.Span.{span_of}
use Rattle.synth.specs.Baseband.{synth_at}

-- A fit's synthesis at the n samples from sample a on, each over len, taken off a block's mean one by one
unfoldable pub less_from : Float → ℕ → ElementFit → Complex → ℕ → ℕ → Complex
less_from fs len f z a zero = z
less_from fs len f z a (suc n) = c_sub (less_from fs len f z a n) (c_div (synth_at fs f (a + n)) (of len))

-- the same at those of the len samples from sample `from` on that a span covers
abbrev pub less_span : Float → ℕ → ElementFit → Span → ℕ → Complex → Complex
less_span fs len f s from z = let a = max s.lo from in less_from fs len f z a (min s.hi (from + len) - a)

-- and at the samples of block b that the fit's span covers, the span cut to the whole blocks
unfoldable pub less_fit : Float → ℕ → ℕ → ElementFit → ℕ → Complex → Complex
less_fit fs len blocks f b z = less_span fs len f (span_of fs (blocks * len) f) (b * len) z

-- each fit in turn
unfoldable pub less_fits : Float → ℕ → ℕ → List ElementFit → ℕ → Complex → Complex
less_fits fs len blocks [] b z = z
less_fits fs len blocks (f ∷ fits) b z = less_fits fs len blocks fits b (less_fit fs len blocks f b z)

-- what is left of the mean of block b
abbrev pub residual_mean : Float → ℕ → List ElementFit → (ℕ → Complex) → ℕ → Complex
residual_mean fs blocks fits z b = less_fits fs (window_of fs) blocks fits b (z b)
