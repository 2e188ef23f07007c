use Rattle.ghc_match.proofs.Words.{rules, sym, subst, to_z-of_z, IsValue}
use mir.Val.{SFits}
use mir.Syntax.{w64}
use Rattle.ghc_match.proofs.EndsLemmas.{stands_ends_once, unbound_added, none_added}
use Rattle.ghc_match.proofs.AlikeLemmas.{value_seen}
use Rattle.ghc_match.proofs.SmallLemmas.{ends_in_integer, ends_in_other}
use Rattle.ghc_match.proofs.small.ask_variable.Goals as goal

pub returns-in_ok-insert-in-Var-clause-wanted : goal.returns-in_ok-insert-in-Var-clause-wanted
returns-in_ok-insert-in-Var-clause-wanted c =
    unbound_added _ _ _ _ _ c.in-Some.ensures c.in_ok-end.ensures.end _ _ _ c.in-Var.ensures.shown c.in_ok-insert-in-Var.ensures.ok

pub returns-in-Int-clause-asked : goal.returns-in-Int-clause-asked
returns-in-Int-clause-asked c =
    let l = rw (← c.in-Int.ensures.shown) at c.in_ok-end.ensures.end in
    let fits : SFits w64 c.in-Int.k = search rules in
    rw (to_z-of_z w64 c.in-Int.k fits) (ends_in_integer (stands_ends_once _ _) c.args.name c.in-Int.k (c.in-Some.term.now, sym c.in-Some.ensures, l))

pub returns-in-Int-clause-wanted : goal.returns-in-Int-clause-wanted
returns-in-Int-clause-wanted c = none_added _ _ _ _ _ c.in-Some.ensures c.in_ok-end.ensures.end _ (subst IsValue c.in-Int.ensures.shown tt)

pub returns-in_default-view-clause-asked : goal.returns-in_default-view-clause-asked
returns-in_default-view-clause-asked c =
    let l = rw (← c.view.ensures.shown) at c.in_ok-end.ensures.end in
    ends_in_other (stands_ends_once _ _) c.args.name c.view.result c.in_default-view.not-Var c.in_default-view.not-Int (_, sym c.in-Some.ensures, l)

pub returns-in_default-view-clause-wanted : goal.returns-in_default-view-clause-wanted
returns-in_default-view-clause-wanted c =
    none_added _ _ _ _ _ c.in-Some.ensures c.in_ok-end.ensures.end _ (value_seen _ _ c.view.ensures.shown c.in_default-view.not-Var)
