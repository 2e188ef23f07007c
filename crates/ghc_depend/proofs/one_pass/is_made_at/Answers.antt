use Rattle.ghc_depend.proofs.Words.{◌≡◌, ◌≢◌, true, false, None, Some, subst, Record, MakesVariable}
use Rattle.ghc_depend.specs.inner.Sources.{IsPlaceOfOne}
use Rattle.ghc_depend.proofs.OnePass.{has_place, none_there, one_there}
use Rattle.ghc_depend.proofs.one_pass.is_made_at.Goals as goal

pub returns-in-Some : goal.returns-in-Some
returns-in-Some c =
    let ss = c.args.records.now.slots in
    let Q : Record → Type 0 = λ a. (c.args.x.step ≢ c.args.later.now.number) × MakesVariable a c.args.x in
    let places = c.args.places.now in
    let p = c.in-Some.place in
    let there = one_there ss places.keys Q p (subst (IsPlaceOfOne ss Q) c.in-Some.is c.place_of_other_maker.ensures) in
    let has = has_place places p c.contains.result c.contains.ensures in
    (λ e. there.0 (has.0 e), λ h. has.1 (there.1 h))

pub returns-in-None : goal.returns-in-None
returns-in-None c =
    let ss = c.args.records.now.slots in
    let Q : Record → Type 0 = λ a. (c.args.x.step ≢ c.args.later.now.number) × MakesVariable a c.args.x in (
      λ e. absurd (let clash : false ≡ true = e in cc),
      λ h. absurd (none_there ss c.args.places.now.keys Q (subst (IsPlaceOfOne ss Q) c.in-None.is c.place_of_other_maker.ensures) h),
    )
