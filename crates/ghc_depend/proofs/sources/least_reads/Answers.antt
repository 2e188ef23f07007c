use Rattle.ghc_depend.proofs.Words.{◌≡◌, ◌+◌, [], ◌∷◌, ◌++◌, get_or, take, sym, ap, ◌∙◌, subst, arith, take_more, take_all, VarName, Binds}
use Rattle.ghc_depend.specs.inner.Sources.{IsPlaceOfOne}
use Rattle.ghc_depend.proofs.Sourcing.{AreLeast, least_still, least_more, are_reads}
use Rattle.ghc_depend.proofs.sources.least_reads.Goals.{in-Some+in_ok-put_least, in_default}
use Rattle.ghc_depend.proofs.sources.least_reads.Goals as goal

pub loop-x-preserved : goal.loop-x-preserved
loop-x-preserved c =
    let ss = c.args.records.now.slots in
    let items = c.members-x-items.result.now in
    let i = c.loop-x.x-index in
    let none : VarName = record { step = 0; place = 0 } in
    let x = get_or items i none in
    let more : take (i + 1) items ≡ take i items ++ x ∷ [] = take_more items i none c.loop-x-test.true in
    elim c.match-place_of_binder.branch [
      | in-Some+in_ok-put_least w ↦ rw w.reads-is (subst (λ l. AreLeast ss Binds l w.put_least.new.least) (sym more)
          (least_more ss Binds (take i items) x c.loop-x.reads c.loop-x.invariant w.in-Some.place w.put_least.new.least
          (subst (IsPlaceOfOne ss (λ a. Binds a x)) w.in-Some.is c.place_of_binder.ensures) w.in_ok-put_least.ensures))
      | in_default w ↦ rw w.reads-is (subst (λ l. AreLeast ss Binds l c.loop-x.reads) (sym more)
          (least_still ss Binds (take i items) x c.loop-x.reads c.loop-x.invariant (subst (IsPlaceOfOne ss (λ a. Binds a x)) w.in_default.is c.place_of_binder.ensures)))
    ]

pub returns : goal.returns
returns c =
    let ss = c.args.records.now.slots in
    let items = c.members-x-items.result.now in
    are_reads ss c.args.later.now items c.loop-x.reads (c.members-x-items.ensures.all ∙ c.reads.ensures ∙ ap (λ f. f.reads) c.effect.ensures)
    (subst (λ l. AreLeast ss Binds l c.loop-x.reads) (take_all c.loop-x.x-index items (omega (arith, c.loop-x-test.false))) c.loop-x.invariant)
