use Rattle.ghc_trace.proofs.Words.{◌≡◌, ◌∙◌, true, false, ◌++◌, ◌∷◌, [], take, refl, sym, subst, arith, take_all, Picks, nothing, pick_last, leave_last}
use Rattle.std.specs.Prelude.{slice_index_or}
use Rattle.ghc_fire.proofs.Calling.{numbered_for, take_number}
use Rattle.ghc_trace.specs.OtherClauses.{CouldBe}
use Rattle.ghc_trace.proofs.OtherClauses.{all_others}
use Rattle.ghc_trace.proofs.others.others_for.Goals.{then-branch+in_ok-push, else-branch}
use Rattle.ghc_trace.proofs.others.others_for.Goals as goal

pub loop-number-init : goal.loop-number-init
loop-number-init c = subst (Picks (CouldBe c.args.core.now.world c.args.step.now) []) (sym c.new-others.ensures.items) nothing

pub could_be-requires-clause-clause : goal.could_be-requires-clause-clause
could_be-requires-clause-clause c =
    let numbers = rw c.program.ensures at c.clauses_for-number-items.ensures in
    let n = numbered_for c.args.core.now.world.opening.program _ _ _ numbers _ _ c.loop-number-test.true refl in
    (c.args.name.now, n.0, c.requires.call, n.1, (n.2, n.3))

pub loop-number-preserved : goal.loop-number-preserved
loop-number-preserved c =
    let w = c.args.core.now.world in
    let r = c.args.step.now in
    let ks = c.clauses_for-number-items.result.now in
    let i = c.loop-number.number-index in
    let items = c.loop-number.others.items in
    let more = take_number ks i c.loop-number-test.true in
    elim c.if-branch.branch [
      | then-branch+in_ok-push b ↦ rw b.others-is (subst (λ l. Picks (CouldBe w r) l b.push.new.self.items) more (subst (Picks (CouldBe w r) (take i ks ++ slice_index_or ks i 0 ∷ [])) (sym b.in_ok-push.ensures.items)
          (pick_last (take i ks) items (slice_index_or ks i 0) c.loop-number.invariant (c.in_ok-could_be.ensures.0 b.if-branch.true))))
      | else-branch b ↦ rw b.others-is (subst (λ l. Picks (CouldBe w r) l items) more
          (leave_last (take i ks) items (slice_index_or ks i 0) c.loop-number.invariant (λ h. let clash : false ≡ true = sym b.if-branch.false ∙ c.in_ok-could_be.ensures.1 h in cc)))
    ]

pub returns : goal.returns
returns c =
    let ks = c.clauses_for-number-items.result.now in
    let w = c.args.core.now.world in
    let numbers = rw c.program.ensures at c.clauses_for-number-items.ensures in
    all_others w c.args.step.now c.args.name.now c.args.arguments.now c.requires.call ks c.loop-number.others.items numbers
    (subst (λ l. Picks (CouldBe w c.args.step.now) l c.loop-number.others.items) (take_all c.loop-number.number-index ks (omega (arith, c.loop-number-test.false))) c.loop-number.invariant)
