use Rattle.ghc_match.proofs.Words.{◌≡◌, false, true}
use Rattle.ghc_match.proofs.AlikeLemmas.{value_seen}
use Rattle.ghc_match.proofs.EndsLemmas.{unbound_added, not_ended, none_added}
use Rattle.ghc_match.proofs.guard.look_at.Goals as goal

pub returns-in-Var-clause-wanted : goal.returns-in-Var-clause-wanted
returns-in-Var-clause-wanted c = unbound_added _ _ _ _ _ c.in-Some.ensures c.in_ok-end.ensures.end _ _ _ c.in-Var.ensures.shown c.in_ok-insert.ensures.ok

pub returns-clause-waits : goal.returns-clause-waits
returns-clause-waits c = (
  λ h. absurd (let clash : false ≡ true = h in cc),
  λ w. absurd (not_ended _ _ _ _ _ c.in-Some.ensures c.in_ok-end.ensures.end (value_seen _ _ c.view.ensures.shown c.in_default-view.not-Var) w.0 w.1),
)

pub returns-clause-wanted : goal.returns-clause-wanted
returns-clause-wanted c = none_added _ _ _ _ _ c.in-Some.ensures c.in_ok-end.ensures.end _ (value_seen _ _ c.view.ensures.shown c.in_default-view.not-Var)
