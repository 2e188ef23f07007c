use Rattle.ghc_term.proofs.Words.{sym, ap, ◌∙◌, subst, not, Reaches, value_at, variable}
use Rattle.ghc_term.proofs.Reaching.{known_apart, not_there}
use Rattle.ghc_term.proofs.VariableLists.{is_there}
use Rattle.ghc_term.proofs.store.Store.is_known_apart.Goals as goal

pub returns-then-is_some : goal.returns-then-is_some
returns-then-is_some c h =
    let K = c.self.inside.known in
    subst (λ t. ¬ Reaches (value_at t.held) (variable c.args.y) c.args.x) c.self.view_is
    (known_apart K c.args.y c.args.x c.self.invariant.1
    (is_there c.place_of.result K c.args.y (sym c.is_some.ensures ∙ c.if-is_some.true) c.place_of.ensures.found)
    (not_there c.place_of-then-is_some.result (c.is_none.ensures ∙ ap not h) c.place_of-then-is_some.ensures.none))
