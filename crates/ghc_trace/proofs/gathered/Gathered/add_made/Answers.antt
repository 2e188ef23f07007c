use Rattle.ghc_trace.proofs.Words.{◌≡◌, ◌≤◌, ◌+◌, ◌∙◌, length, sym, ap, inl, inr, arith, rules, GoalName, MakesGoal}
use Rattle.ghc_trace.proofs.Gathering.{gathers_none, gathers_one, gathers_both, gathers_alike}
use Rattle.ghc_trace.proofs.Disturbing.{up_to}
use Rattle.ghc_trace.proofs.gathered.Gathered.add_made.Goals as goal

pub loop-index-init : goal.loop-index-init
loop-index-init c =
    gathers_none c.args.tries.now.notes (λ g. (g.step ≡ c.number-number.result) × (1 ≤ g.place) × (g.place ≤ 0)) c.args.self.now.goals.items (λ g h. omega (arith, h.1, h.2))

pub loop-index-preserved : goal.loop-index-preserved
loop-index-preserved c =
    let notes = c.args.tries.now.notes in
    let n = c.number-number.result in
    let i = c.loop-index.index in
    let x : GoalName = record { step = n; place = i + 1 } in
    gathers_both notes (λ g. (g.step ≡ n) × (1 ≤ g.place) × (g.place ≤ i)) (λ g. g ≡ x) (λ g. (g.step ≡ n) × (1 ≤ g.place) × (g.place ≤ i + 1)) c.args.self.now.goals.items c.loop-index.self.goals.items c.add.new.self.goals.items
    (λ g. (
      λ h. elim h [
        | inl k ↦ (k.0, k.1, omega (arith, k.2))
        | inr same ↦ (ap (λ (z : GoalName). z.step) same, omega (arith, ap (λ (z : GoalName). z.place) same), omega (arith, ap (λ (z : GoalName). z.place) same))
      ],
      λ k. up_to g n i k.0 k.1 k.2,
    ))
    c.loop-index.invariant
    (gathers_one notes c.loop-index.self.goals.items c.add.new.self.goals.items x c.in_ok-add.ensures)

pub returns : goal.returns
returns c =
    let number : c.number-number.result ≡ c.args.step.now.number = c.number-number.ensures in
    let all : c.loop-index.index ≡ length c.args.step.now.effect.makes = search rules in
    gathers_alike c.args.tries.now.notes (λ g. (g.step ≡ c.number-number.result) × (1 ≤ g.place) × (g.place ≤ c.loop-index.index)) (MakesGoal c.args.step.now) c.args.self.now.goals.items c.loop-index.self.goals.items
    (λ g. (λ h. (h.0 ∙ number, h.1, omega (arith, h.2, all)), λ h. (h.0 ∙ sym number, h.1, omega (arith, h.2, all))))
    c.loop-index.invariant
