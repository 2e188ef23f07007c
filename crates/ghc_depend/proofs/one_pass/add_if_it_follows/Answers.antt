use Rattle.ghc_depend.proofs.Words.{◌≡◌, ◌+◌, [], ◌∷◌, ◌++◌, true, false, None, Some, Result, Ok, Err, OnOk, sym, ap, ◌∙◌, subst, option_copied, AreDistinct, Record, numbers, StandsIn, IsOfSteps, IsSoFar}
use Rattle.ghc_depend.proofs.OnePass.{it_follows, it_uses, so_gap, so_more, so_still}
use Rattle.ghc_depend.proofs.one_pass.add_if_it_follows.Goals as goal

on_ok : {X E : Type 0} (r : Result X E) {A B : Type 0} → OnOk r A → (A → B) → OnOk r B
on_ok (Ok x) h f = f h
on_ok (Err e) h f = tt

pub returns-in_default : goal.returns-in_default
returns-in_default c own a at low so =
    let ss = c.args.records.now.slots in
    let distinct = subst (λ l. AreDistinct (numbers l)) c.len-count.ensures.slots c.len-count.ensures.distinct in
    so_gap ss distinct own a at c.args.place c.args.steps.now.places.keys c.args.steps.now.bound.keys c.args.found.now.items so c.requires
    (λ r there. let clash : None ≡ Some r = sym (ap option_copied c.in_default.is) ∙ (c.at.ensures r).1 there in cc)

pub returns-then-not-uses_one : goal.returns-then-not-uses_one
returns-then-not-uses_one c own a at low so =
    let ss = c.args.records.now.slots in
    let distinct = subst (λ l. AreDistinct (numbers l)) c.len-count.ensures.slots c.len-count.ensures.distinct in
    let places = c.args.steps.now.places.keys in
    let bound = c.args.steps.now.bound.keys in
    let b = c.in-Some.step.now in
    let there = (c.at.ensures b).0 (ap option_copied c.in-Some.is) in
    so_still ss distinct own a at c.args.place places bound c.args.found.now.items so low b there
    (λ f. let clash : true ≡ false = sym ((c.uses_one.ensures (a ∷ so.0) so.3).1 (it_uses ss distinct own a at c.args.place places bound c.args.found.now.items so low b there f)) ∙ c.if-not-uses_one.true in cc)

pub returns : goal.returns
returns c = on_ok c.add_step.result c.add_step.ensures (λ more own a at low so.
    let ss = c.args.records.now.slots in
    let distinct = subst (λ l. AreDistinct (numbers l)) c.len-count.ensures.slots c.len-count.ensures.distinct in
    let places = c.args.steps.now.places.keys in
    let bound = c.args.steps.now.bound.keys in
    let items = c.args.found.now.items in
    let b = c.in-Some.step.now in
    let there = (c.at.ensures b).0 (ap option_copied c.in-Some.is) in
    let follows = it_follows ss distinct own a at c.args.place places bound items so low b there ((c.uses_one.ensures (a ∷ so.0) so.3).0 c.if-not-uses_one.false) in
    subst (IsSoFar ss a (c.args.place + 1) c.add_step.new.steps.places.keys c.add_step.new.steps.bound.keys) (sym (c.in_ok-push.ensures.items ∙ ap (λ n. items ++ n ∷ []) c.number.ensures))
    (so_more ss distinct own a at c.args.place places bound items so low b there follows c.add_step.new.steps.places.keys c.add_step.new.steps.bound.keys (more ss (a ∷ so.0) there so.3)))
