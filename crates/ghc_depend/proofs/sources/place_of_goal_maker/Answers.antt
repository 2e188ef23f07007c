use Rattle.ghc_depend.proofs.Words.{◌≡◌, true, false, refl, sym, ap, subst, ◌∙◌, AreDistinct, Record, numbers, MakesGoal, some_of, one_record}
use Rattle.std.specs.Prelude.{option_copied}
use Rattle.ghc_depend.proofs.Sourcing.{only_there, not_there, nowhere}
use Rattle.ghc_depend.proofs.sources.place_of_goal_maker.Goals as goal

pub returns-in_err-place : goal.returns-in_err-place
returns-in_err-place c = rw c.from_residual.ensures (
    nowhere c.args.records.now.slots (subst (λ l. AreDistinct (numbers l)) c.len-count.ensures.slots c.len-count.ensures.distinct) (λ a. MakesGoal a c.args.goal) c.args.goal.step (λ a m. sym m.0)
    (rw c.len-count.ensures.slots at c.in_err-place.ensures.none))

pub unwrap-requires : goal.unwrap-requires
unwrap-requires c = let f = c.in_ok-place.ensures.found in some_of c.at.result f.0 ((c.at.ensures f.0).1 f.1)

pub returns-then-not-makes_goal : goal.returns-then-not-makes_goal
returns-then-not-makes_goal c =
    let ss = c.args.records.now.slots in
    let maker = c.unwrap.result.now in
    let stands = (c.at.ensures maker).0 (ap option_copied c.unwrap.ensures) in
    let f = c.in_ok-place.ensures.found in
    let number : maker.number ≡ c.args.goal.step = subst (λ (r : Record). r.number ≡ c.args.goal.step) (one_record ss c.in_ok-place.place c.in_ok-place.place f.0 maker f.1 stands refl) f.2 in
    not_there ss (subst (λ l. AreDistinct (numbers l)) c.len-count.ensures.slots c.len-count.ensures.distinct) (λ a. MakesGoal a c.args.goal) c.args.goal.step (λ a m. sym m.0) c.in_ok-place.place maker stands number
    (λ m. let clash : true ≡ false = sym (c.makes_goal.ensures.1 m) ∙ c.if-not-makes_goal.true in cc)

pub returns : goal.returns
returns c =
    let ss = c.args.records.now.slots in
    let maker = c.unwrap.result.now in
    let stands = (c.at.ensures maker).0 (ap option_copied c.unwrap.ensures) in
    let makes = c.makes_goal.ensures.0 c.if-not-makes_goal.false in
    only_there ss (subst (λ l. AreDistinct (numbers l)) c.len-count.ensures.slots c.len-count.ensures.distinct) (λ a. MakesGoal a c.args.goal) c.args.goal.step (λ a m. sym m.0) c.in_ok-place.place maker stands (sym makes.0) makes
