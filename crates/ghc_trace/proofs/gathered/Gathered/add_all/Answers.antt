use Rattle.ghc_trace.proofs.Words.{◌≡◌, ◌+◌, get_or, take, subst, inl, inr, take_all, In, GoalName, so_far, earlier, latest, Gathers}
use Rattle.ghc_trace.proofs.Gathering.{gathers_none, gathers_one, gathers_both}
use Rattle.ghc_trace.proofs.gathered.Gathered.add_all.Goals as goal

pub loop-goal-init : goal.loop-goal-init
loop-goal-init c = gathers_none c.args.tries.now.notes (λ g. ⊥) c.args.self.now.goals.items (λ g never. never)

pub loop-goal-preserved : goal.loop-goal-preserved
loop-goal-preserved c =
    let none : GoalName = record { step = 0; place = 0 } in
    let notes = c.args.tries.now.notes in
    let gs = c.args.goals.now in
    let i = c.loop-goal.goal-index in
    let x = get_or gs i none in
    let within = c.loop-goal-test.true in
    gathers_both notes (λ g. In g (take i gs)) (λ g. g ≡ x) (λ g. In g (take (i + 1) gs)) c.args.self.now.goals.items c.loop-goal.self.goals.items c.add.new.self.goals.items
    (λ g. (λ h. elim h [ inl k ↦ earlier gs i none within g k | inr e ↦ latest gs i none within g e ], λ k. so_far gs i none within g k))
    c.loop-goal.invariant
    (gathers_one notes c.loop-goal.self.goals.items c.add.new.self.goals.items x c.in_ok-add.ensures)

pub returns : goal.returns
returns c =
    subst (λ gs. Gathers c.args.tries.now.notes (λ g. In g gs) c.args.self.now.goals.items c.loop-goal.self.goals.items) (take_all c.loop-goal.goal-index c.args.goals.now c.loop-goal-test.false) c.loop-goal.invariant
