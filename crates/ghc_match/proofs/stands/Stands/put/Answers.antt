use Rattle.ghc_match.proofs.Words.{◌≡◌, ◌≤◌, ap, ◌∙◌, subst, sym, arith, laid_over, HasNoneBefore}
use Rattle.std.specs.FinMap as finite
use Rattle.ghc_match.proofs.StandsLemmas.{IsApart, put_there, put_beside, none_before_put, apart_by_step, apart_past}
use Rattle.ghc_match.proofs.stands.Stands.put.Goals as goal
use Rattle.ghc_match.proofs.stands.Stands.put.Goals.{else-x-eq0-via-then-x-eq0+else-place-lt-FEW, else-x-eq0-via-else-x-eq0}

pub returns-then-place-lt-FEW : goal.returns-then-place-lt-FEW
returns-then-place-lt-FEW c =
    let few = c.self.inside.few in
    let x = c.args.x in
    put_there 0 few c.self.inside.many x.place x c.args.term (omega (arith, c.if-place-lt-FEW.true, c.self.invariant.0)) (omega (arith, c.if-x-eq0.true)) (omega arith)
    ∙ ap (λ z. finite.insert z x c.args.term.now) c.self.view_is

pub returns : goal.returns
returns c =
    let few = c.self.inside.few in
    let many = c.self.inside.many in
    let x = c.args.x in
    let t = c.args.term.now in
    let others : IsApart 0 few x = elim c.else-x-eq0.branch [
      | else-x-eq0-via-then-x-eq0+else-place-lt-FEW w ↦ apart_past 0 few x (omega (arith, w.if-place-lt-FEW.false, c.self.invariant.0))
      | else-x-eq0-via-else-x-eq0 w ↦ apart_by_step 0 few x (λ e. omega (arith, w.if-x-eq0.false, e))
    ] in
    ap (laid_over 0 few) (c.in_ok-insert.ensures.ok ∙ ap (finite.insert many x) c.in_ok-share.ensures)
    ∙ put_beside 0 few many x t others ∙ ap (λ z. finite.insert z x t) c.self.view_is

pub invariant_of-self-2 : goal.invariant_of-self-2
invariant_of-self-2 c =
    let many = c.self.inside.many in
    let x = c.args.x in
    let t = c.args.term.now in
    let put = c.in_ok-insert.ensures.ok ∙ ap (finite.insert many x) c.in_ok-share.ensures in
    let behind : x.step ≡ 0 → 8 ≤ x.place = elim c.else-x-eq0.branch [
      | else-x-eq0-via-then-x-eq0+else-place-lt-FEW w ↦ λ s. omega (arith, w.if-place-lt-FEW.false)
      | else-x-eq0-via-else-x-eq0 w ↦ λ s. omega (arith, w.if-x-eq0.false, s)
    ] in
    (c.self.invariant.0, subst (HasNoneBefore 8) (sym put) (none_before_put 8 many x t c.self.invariant.1 behind))
