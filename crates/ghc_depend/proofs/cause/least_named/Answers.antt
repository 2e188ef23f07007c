use Rattle.ghc_depend.proofs.Words.{◌≡◌, ◌≢◌, ◌+◌, true, false, [], ◌∷◌, ◌++◌, get_or, take, sym, ◌∙◌, subst, arith, Some, take_more, take_all, VarName, MakesVariable}
use Rattle.ghc_depend.proofs.Causes.{IsLeastOf, least_passed, least_taken, named_is, named_none}
use Rattle.ghc_depend.proofs.cause.least_named.Goals as goal
use Rattle.ghc_depend.proofs.cause.least_named.Goals.{then-names, else-names}

pub loop-name-preserved : goal.loop-name-preserved
loop-name-preserved c =
    let Q : VarName → Type 0 = λ x. (x.step ≢ c.args.later.now.number) × MakesVariable c.args.earlier.now x in
    let items = c.variables-name-items.result.now in
    let i = c.loop-name.name-index in
    let none : VarName = record { step = 0; place = 0 } in
    let x = get_or items i none in
    let more : take (i + 1) items ≡ take i items ++ x ∷ [] = take_more items i none c.loop-name-test.true in
    elim c.if-names.branch [
      | then-names w ↦ rw w.least-is (subst (λ l. IsLeastOf Q l (Some w.lesser.result)) (sym more)
          (least_taken Q (take i items) x c.loop-name.least w.lesser.result c.loop-name.invariant (c.names.ensures.0 w.if-names.true) w.lesser.ensures.second w.lesser.ensures.alone))
      | else-names w ↦ rw w.least-is (subst (λ l. IsLeastOf Q l c.loop-name.least) (sym more)
          (least_passed Q (take i items) x c.loop-name.least c.loop-name.invariant (λ h. let clash : true ≡ false = sym (c.names.ensures.1 h) ∙ w.if-names.false in cc)))
    ]

pub returns : goal.returns
returns c = grind (arith, take_all, named_is, named_none)
