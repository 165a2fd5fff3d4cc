-- `rank::select::Cell::find` meets its contract.
use Rattle.std.proofs.Common.{ℕ, ◌≡◌, ◌/◌, ◌^◌, Some, eqb, refl, subst, sym, ◌∙◌, rules, tests}
use Rattle.std.specs.Option.{IsSome}
use Rattle.std.proofs.lemmas.Iterator.{YieldsList-from_slice, YieldsList-from_map}
use Rattle.std.proofs.lemmas.Iterator.Consumers.{YieldsList-at}
use Rattle.std.proofs.lemmas.Iterator.Search.{find_from_yields_List}
use Rattle.rank.specs.Inner.{ordinal_of, OrdinalIn}
use Rattle.rank.proofs.Counted.{found}
use Rattle.rank.proofs.select.Cell.find.Goals as goal
use Rattle.rank.proofs.select.Cell.find.Goals.{After-find}

first : (c : After-find) → (k : ℕ) × (c.find.result ≡ Some k) × OrdinalIn c.args.v.now (2 ^ c.args.self.shift) c.args.self.prefix k
first c =
    found c.args.v.now (2 ^ c.args.self.shift) c.args.self.prefix c.find.result
    (find_from_yields_List (λ k. eqb (k / 2 ^ c.args.self.shift) c.args.self.prefix) _ _ _ c.find.ensures.ran
    (YieldsList-from_map _ ordinal_of (YieldsList-at c.map.ensures.source (YieldsList-from_slice _ (c.iter.ensures.rest ∙ c.v.view_is))) c.map.ensures.closure (λ x r q k. search rules))
    (λ x b q k. search (rules, tests)))
    c.requires

pub unwrap-requires : goal.unwrap-requires
unwrap-requires c = let w = first c in subst IsSome (sym w.1) refl

pub returns : goal.returns
returns c =
    let w = first (goal.at.returns c).After-find in
    let e : w.0 ≡ c.unwrap.result = cc (w.1, c.unwrap.ensures) in
    subst (OrdinalIn c.args.v.now (2 ^ c.args.self.shift) c.args.self.prefix) e w.2
