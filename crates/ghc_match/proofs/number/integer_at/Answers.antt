use Rattle.ghc_match.proofs.Words.{rules, ◌∙◌, to_z-of_z, integer, of_integer, of_variable, EndsAt}
use mir.Val.{SFits}
use mir.Syntax.{w64}
use Rattle.ghc_match.proofs.EndsLemmas.{once_at, no_value, shown_no_integer, leaf_number}
use Rattle.ghc_match.proofs.number.integer_at.Goals as goal

pub returns-in-Int : goal.returns-in-Int
returns-in-Int c = let fits : SFits w64 c.in-Int.k = search rules in rw (to_z-of_z w64 c.in-Int.k fits, ← c.in-Int.ensures.shown) of_integer

pub returns-in-Int-view : goal.returns-in-Int-view
returns-in-Int-view c =
    let fits : SFits w64 c.in-Int-view.k = search rules in
    rw (to_z-of_z w64 c.in-Int-view.k fits, ← c.in-Var.ensures.shown) (of_variable (rw (← c.in-Int-view.ensures.shown) at c.in-Value.ensures.0))

pub returns-in_default-view : goal.returns-in_default-view
returns-in_default-view c k n =
    let E = EndsAt c.args.scope c.args.store.now.held in
    let at = leaf_number E c.in-Var.x c.args.term.now k c.in-Var.ensures.shown n in
    shown_no_integer c.view-in-Value.result c.in_default-view.not-Int k (c.view-in-Value.ensures.shown ∙ once_at c.args.scope c.args.store.now.held c.in-Var.x c.in-Value.value.now (integer k) c.in-Value.ensures.0 at)

pub returns-in_default-end_of : goal.returns-in_default-end_of
returns-in_default-end_of c k n =
    let E = EndsAt c.args.scope c.args.store.now.held in
    no_value (E c.in-Var.x) c.end_of.result (λ e f p q. once_at c.args.scope c.args.store.now.held c.in-Var.x e f p q) c.in_default-end_of.not-Value c.end_of.ensures k
    (leaf_number E c.in-Var.x c.args.term.now k c.in-Var.ensures.shown n)
