use Rattle.ghc_match.proofs.Words.{sym, ap, ◌∙◌, arith, Some, slice_get-get_or, value_at}
use Rattle.ghc_match.proofs.StandsLemmas.{lent_there, outside, apart_by_step, apart_past}
use Rattle.ghc_match.proofs.stands.Stands.get.Goals as goal
use Rattle.ghc_match.proofs.stands.Stands.get.Goals.{else-x-eq0-via-then-x-eq0+else-place-lt-FEW, else-x-eq0-via-else-x-eq0}

pub returns-then-place-lt-FEW : goal.returns-then-place-lt-FEW
returns-then-place-lt-FEW c =
    let few = c.self.inside.few in
    let x = c.args.x in
    lent_there few c.self.inside.many x c.index-few-place.result c.self.invariant.1
    (slice_get-get_or few x.place _ (omega (arith, c.if-place-lt-FEW.true, c.self.invariant.0)) ∙ ap Some (sym c.index-few-place.is)) (omega (arith, c.if-x-eq0.true)) (omega (arith, c.if-place-lt-FEW.true))
    ∙ ap (λ m. value_at m x) c.self.view_is

pub returns : goal.returns
returns c =
    let few = c.self.inside.few in
    let many = c.self.inside.many in
    let x = c.args.x in
    let there = ap (λ m. value_at m x) c.self.view_is in
    elim c.else-x-eq0.branch [
      | else-x-eq0-via-then-x-eq0+else-place-lt-FEW w ↦
          c.get.ensures ∙ sym (outside 0 few many x (apart_past 0 few x (omega (arith, w.if-place-lt-FEW.false, c.self.invariant.0)))) ∙ there
      | else-x-eq0-via-else-x-eq0 w ↦
          c.get.ensures ∙ sym (outside 0 few many x (apart_by_step 0 few x (λ e. omega (arith, w.if-x-eq0.false, e)))) ∙ there
    ]
