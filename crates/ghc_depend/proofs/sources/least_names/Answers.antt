use Rattle.ghc_depend.proofs.Words.{◌≡◌, ◌≢◌, ◌+◌, [], ◌∷◌, ◌++◌, get_or, take, sym, subst, take_more, Record, VarName, MakesVariable}
use Rattle.ghc_depend.specs.inner.Sources.{IsPlaceOfOne}
use Rattle.ghc_depend.proofs.Sourcing.{AreLeast, least_still, least_more}
use Rattle.ghc_depend.proofs.sources.least_names.Goals.{in-Some+in_ok-put_least, in_default}
use Rattle.ghc_depend.proofs.sources.least_names.Goals as goal

pub loop-x-preserved : goal.loop-x-preserved
loop-x-preserved c =
    let ss = c.args.records.now.slots in
    let Q : Record → VarName → Type 0 = λ a x. (x.step ≢ c.args.later.now.number) × MakesVariable a x in
    let items = c.variables-x-items.result.now in
    let i = c.loop-x.x-index in
    let none : VarName = record { step = 0; place = 0 } in
    let x = get_or items i none in
    let more : take (i + 1) items ≡ take i items ++ x ∷ [] = take_more items i none c.loop-x-test.true in
    elim c.match-place_of_other_maker.branch [
      | in-Some+in_ok-put_least w ↦ rw w.names-is (subst (λ l. AreLeast ss Q l w.put_least.new.least) (sym more)
          (least_more ss Q (take i items) x c.loop-x.names c.loop-x.invariant w.in-Some.place w.put_least.new.least
          (subst (IsPlaceOfOne ss (λ a. Q a x)) w.in-Some.is c.place_of_other_maker.ensures) w.in_ok-put_least.ensures))
      | in_default w ↦ rw w.names-is (subst (λ l. AreLeast ss Q l c.loop-x.names) (sym more)
          (least_still ss Q (take i items) x c.loop-x.names c.loop-x.invariant (subst (IsPlaceOfOne ss (λ a. Q a x)) w.in_default.is c.place_of_other_maker.ensures)))
    ]
