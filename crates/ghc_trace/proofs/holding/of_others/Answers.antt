use Rattle.ghc_trace.proofs.Words.{◌≡◌, ◌≢◌, ◌+◌, List, [], ◌∷◌, ◌++◌, get_or, take, sym, subst, arith, take_more, take_all, Picks, nothing, leave_last, pick_last}
use Rattle.ghc_trace.specs.declared.holding.Holder.{Holder}
use Rattle.ghc_trace.proofs.WayUp.{one_goal, other_goal}
use Rattle.ghc_trace.proofs.holding.of_others.Goals.{then-ne+in_ok-push, else-ne}
use Rattle.ghc_trace.proofs.holding.of_others.Goals as goal

pub loop-holder-init : goal.loop-holder-init
loop-holder-init c = subst (λ (l : List Holder). Picks (λ h. h.goal ≢ c.args.goal) [] l) (sym c.new-others.ensures.items) nothing

pub loop-holder-preserved : goal.loop-holder-preserved
loop-holder-preserved c =
    let items = c.args.holders.now in
    let i = c.loop-holder.holder-index in
    let none : Holder = record { variable = record { step = 0; place = 0 }; goal = record { step = 0; place = 0 } } in
    let h = get_or items i none in
    let g = c.args.goal in
    let others = c.loop-holder.others.items in
    let more : take (i + 1) items ≡ take i items ++ h ∷ [] = take_more items i none c.loop-holder-test.true in
    elim c.if-ne.branch [
      | then-ne+in_ok-push w ↦ rw w.others-is (subst (λ (l : List Holder). Picks (λ h. h.goal ≢ g) l w.push.new.self.items) (sym more)
          (subst (λ (l : List Holder). Picks (λ h. h.goal ≢ g) (take i items ++ h ∷ []) l) (sym w.in_ok-push.ensures.items)
          (pick_last (take i items) others h c.loop-holder.invariant (other_goal h.goal g c.ne.result c.ne.ensures w.if-ne.true))))
      | else-ne w ↦ rw w.others-is (subst (λ (l : List Holder). Picks (λ h. h.goal ≢ g) l others) (sym more)
          (leave_last (take i items) others h c.loop-holder.invariant (λ n. n (one_goal h.goal g c.ne.result c.ne.ensures w.if-ne.false))))
    ]

pub returns : goal.returns
returns c =
    let items = c.args.holders.now in
    subst (λ (l : List Holder). Picks (λ h. h.goal ≢ c.args.goal) l c.loop-holder.others.items) (take_all c.loop-holder.holder-index items (omega (arith, c.loop-holder-test.false))) c.loop-holder.invariant
