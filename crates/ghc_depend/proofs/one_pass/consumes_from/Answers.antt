use Rattle.ghc_depend.proofs.Words.{◌≡◌, true, false, None, Some, sym, ◌∙◌, subst, Consumes, MakesGoal}
use Rattle.ghc_depend.specs.inner.Sources.{IsPlaceOfOne}
use Rattle.ghc_depend.proofs.OnePass.{consumed_at, has_place, none_there, one_there}
use Rattle.ghc_depend.proofs.one_pass.consumes_from.Goals as goal

pub returns-in_default : goal.returns-in_default
returns-in_default c = (
  λ e. absurd (let clash : false ≡ true = e in cc),
  λ h. absurd (let clash : None ≡ Some h.4.0 = sym c.in_default.is ∙ c.goal.ensures ∙ h.4.1 in cc),
)

pub returns-in-Some-place_of_goal_maker : goal.returns-in-Some-place_of_goal_maker
returns-in-Some-place_of_goal_maker c =
    let ss = c.args.records.now.slots in
    let b = c.args.later.now in
    let places = c.args.places.now in
    let p = c.in-Some-place_of_goal_maker.place in
    let one = consumed_at ss b c.in-Some.name (sym c.goal.ensures ∙ c.in-Some.is) (Some p) (subst (IsPlaceOfOne ss (λ a. MakesGoal a c.in-Some.name)) c.in-Some-place_of_goal_maker.is c.place_of_goal_maker.ensures) in
    let there = one_there ss places.keys (Consumes b) p one in
    let has = has_place places p c.contains.result c.contains.ensures in
    (λ e. there.0 (has.0 e), λ h. has.1 (there.1 h))

pub returns-in-None : goal.returns-in-None
returns-in-None c =
    let ss = c.args.records.now.slots in
    let b = c.args.later.now in
    let none = consumed_at ss b c.in-Some.name (sym c.goal.ensures ∙ c.in-Some.is) None (subst (IsPlaceOfOne ss (λ a. MakesGoal a c.in-Some.name)) c.in-None.is c.place_of_goal_maker.ensures) in (
      λ e. absurd (let clash : false ≡ true = e in cc),
      λ h. absurd (none_there ss c.args.places.now.keys (Consumes b) none h),
    )
