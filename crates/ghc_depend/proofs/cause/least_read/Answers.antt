use Rattle.ghc_depend.proofs.Words.{◌≡◌, ◌+◌, true, false, [], ◌∷◌, ◌++◌, get_or, take, sym, ◌∙◌, subst, arith, Some, take_more, take_all, VarName, Binds}
use Rattle.ghc_depend.proofs.Causes.{IsLeastOf, least_passed, least_taken, least_is, least_none}
use Rattle.ghc_depend.proofs.cause.least_read.Goals as goal
use Rattle.ghc_depend.proofs.cause.least_read.Goals.{then-binds, else-binds}

pub loop-x-preserved : goal.loop-x-preserved
loop-x-preserved c =
    let a = c.args.earlier.now in
    let items = c.members-x-items.result.now in
    let i = c.loop-x.x-index in
    let none : VarName = record { step = 0; place = 0 } in
    let x = get_or items i none in
    let more : take (i + 1) items ≡ take i items ++ x ∷ [] = take_more items i none c.loop-x-test.true in
    elim c.if-binds.branch [
      | then-binds w ↦ rw w.least-is (subst (λ l. IsLeastOf (Binds a) l (Some w.lesser.result)) (sym more)
          (least_taken (Binds a) (take i items) x c.loop-x.least w.lesser.result c.loop-x.invariant (c.binds.ensures.0 w.if-binds.true) w.lesser.ensures.second w.lesser.ensures.alone))
      | else-binds w ↦ rw w.least-is (subst (λ l. IsLeastOf (Binds a) l c.loop-x.least) (sym more)
          (least_passed (Binds a) (take i items) x c.loop-x.least c.loop-x.invariant (λ h. let clash : true ≡ false = sym (c.binds.ensures.1 h) ∙ w.if-binds.false in cc)))
    ]

pub returns : goal.returns
returns c = grind (arith, take_all, least_is, least_none)
