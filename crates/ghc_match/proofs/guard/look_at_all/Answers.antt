use Rattle.ghc_match.proofs.Words.{◌≡◌, ◌++◌, ◌∷◌, [], Bool, true, false, take, get_or, sym, ◌∙◌, subst, take_more, VarName, variable, value_at, StandsAndEnds, Gains, StandsAndPasses}
use Rattle.ghc_match.proofs.GainsLemmas.{OneHas, gains_more, Tells, tells_one, tells_same}
use Rattle.ghc_match.proofs.guard.look_at_all.Goals as goal
use Rattle.ghc_match.proofs.guard.look_at_all.Goals.{then-branch, else-branch}

abbrev zero_name : VarName
zero_name = record { step = 0; place = 0 }

pub loop-name-preserved : goal.loop-name-preserved
loop-name-preserved c =
    let S = value_at c.args.store.now.held in
    let m = c.args.stands.now in
    let ends = λ (y x : VarName). StandsAndEnds m S y (variable x) in
    let passes = λ (y x : VarName). StandsAndPasses m S y x in
    let old = take c.loop-name.name-index c.args.names.now in
    let y = get_or c.args.names.now c.loop-name.name-index zero_name in
    let more = sym (take_more c.args.names.now c.loop-name.name-index zero_name c.loop-name-test.true) in
    record {
      says = subst (λ l. Tells ends c.if-branch.waits l) more (elim c.if-branch.branch [
        | then-branch w ↦ subst (λ (b : Bool). Tells ends b (old ++ y ∷ [])) (sym w.waits-is) (tells_one ends old y (c.in_ok-look_at.ensures.waits.0 w.if-branch.true))
        | else-branch w ↦ subst (λ (b : Bool). Tells ends b (old ++ y ∷ [])) (sym w.waits-is) (tells_same ends c.loop-name.waits old y c.loop-name.invariant.says (λ x r. let clash : false ≡ true = sym w.if-branch.false ∙ c.in_ok-look_at.ensures.waits.1 (x, r) in cc))
      ]);
      wants = subst (λ l. Gains c.args.wanted.now c.look_at.new.wanted (OneHas ends l)) more
          (gains_more ends c.args.wanted.now c.loop-name.wanted c.look_at.new.wanted old y c.loop-name.invariant.wants c.in_ok-look_at.ensures.wanted);
      looks = subst (λ l. Gains c.args.looked.now c.look_at.new.looked (OneHas passes l)) more
          (gains_more passes c.args.looked.now c.loop-name.looked c.look_at.new.looked old y c.loop-name.invariant.looks c.in_ok-look_at.ensures.looked);
    }
