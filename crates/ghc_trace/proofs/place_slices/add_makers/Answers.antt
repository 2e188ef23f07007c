use Rattle.ghc_trace.proofs.Words.{◌≡◌, ◌+◌, ◌∙◌, [], ◌∷◌, ◌++◌, List, get_or, take, refl, sym, subst, arith, take_more, take_all, true, false, VarName, Record, AreDistinct, numbers}
use Rattle.ghc_trace.proofs.Places.{AddsMakers, makers_end, no_makers}
use Rattle.ghc_trace.proofs.place_slices.add_makers.Goals.{then-is_some+in_ok-push, else-is_some}
use Rattle.ghc_trace.proofs.place_slices.add_makers.Goals as goal

pub loop-x-init : goal.loop-x-init
loop-x-init c = no_makers c.args.records.now.held c.args.steps.now.items

pub loop-x-preserved : goal.loop-x-preserved
loop-x-preserved c =
    let ss = c.args.records.now.slots in
    let held = c.len-count.ensures.slots in
    let distinct = subst (λ (l : List Record). AreDistinct (numbers l)) held c.len-count.ensures.distinct in
    let old = c.args.steps.now.items in
    let now = c.loop-x.steps.items in
    let items = c.args.xs.now in
    let i = c.loop-x.x-index in
    let none : VarName = record { step = 0; place = 0 } in
    let x = get_or items i none in
    let more : take (i + 1) items ≡ take i items ++ x ∷ [] = take_more items i none c.loop-x-test.true in
    let end = makers_end ss distinct (take i items) old now x (subst (λ (l : List Record). AddsMakers l (take i items) old now) held c.loop-x.invariant) c.place_of_maker.result c.place_of_maker.ensures in
    elim c.if-is_some.branch [
      | then-is_some+in_ok-push w ↦ rw w.steps-is (subst (λ (l : List VarName). AddsMakers c.args.records.now.held l old w.push.new.self.items) (sym more)
          (subst (λ (l : List Record). AddsMakers l (take i items ++ x ∷ []) old w.push.new.self.items) (sym held)
          (end w.push.new.self.items (λ _. w.in_ok-push.ensures.items) (λ e. let clash : true ≡ false = sym w.if-is_some.true ∙ c.is_some.ensures ∙ e in cc))))
      | else-is_some w ↦ rw w.steps-is (subst (λ (l : List VarName). AddsMakers c.args.records.now.held l old now) (sym more)
          (subst (λ (l : List Record). AddsMakers l (take i items ++ x ∷ []) old now) (sym held)
          (end now (λ e. let clash : false ≡ true = sym w.if-is_some.false ∙ c.is_some.ensures ∙ e in cc) (λ _. refl))))
    ]

pub returns : goal.returns
returns c =
    let items = c.args.xs.now in
    subst (λ (l : List VarName). AddsMakers c.args.records.now.held l c.args.steps.now.items c.loop-x.steps.items) (take_all c.loop-x.x-index items (omega (arith, c.loop-x-test.false))) c.loop-x.invariant
