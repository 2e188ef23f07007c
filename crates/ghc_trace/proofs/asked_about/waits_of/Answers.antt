use Rattle.ghc_trace.proofs.Words.{◌≡◌, [], ◌∷◌, ◌++◌, List, sym, ap, ◌∙◌, subst, append_assoc, append-nil, Goals, In, in_last, in_left, in_right, Some, lent, Named, inl, refl}
use Rattle.std.specs.FinMap as finite
use Rattle.ghc_trace.proofs.AskedAbout.{AreWaitsOf, all_wait, waits_of_more, waits_of_none}
use Rattle.ghc_trace.proofs.Lines.{listed}
use Rattle.ghc_trace.proofs.asked_about.waits_of.Goals as goal

pub loop-name-init : goal.loop-name-init
loop-name-init c =
    let w = c.args.core.now.world in
    let entries : finite.entries w.state.goals ≡ lent c.into_iter-name-iterator.result =
    ap (λ (goals : Goals). finite.entries goals) (sym c.goals.ensures) ∙ sym c.in_ok-goals.ensures ∙ ap lent (sym c.into_iter-name-iterator.ensures.into_iter_gives.0) in
    ([], entries, waits_of_none w c.new-waits.result c.new-waits.ensures.empty)

pub add_waits-requires-clause-there : goal.add_waits-requires-clause-there
add_waits-requires-clause-there c =
    let goals = c.args.core.now.world.state.goals in
    let goal : Named = (c.in-Some.name.now, c.in-Some.goal.now.now) in
    let done = c.loop-name.invariant.0 in
    let rest = lent c.next.new.self in
    let split : finite.entries goals ≡ done ++ goal ∷ rest = c.loop-name.invariant.1 ∙ ap (λ es. done ++ lent es) c.in-Some.ensures.steps in
    listed goals goal (subst (In goal) (sym split) (in_right done (goal ∷ rest) goal (inl refl)))

pub loop-name-preserved : goal.loop-name-preserved
loop-name-preserved c =
    let goal : Named = (c.in-Some.name.now, c.in-Some.goal.now.now) in
    let done = c.loop-name.invariant.0 in (
      done ++ goal ∷ [],
      c.loop-name.invariant.1 ∙ ap (λ es. done ++ lent es) c.in-Some.ensures.steps ∙ sym (append_assoc done (goal ∷ []) (lent c.next.new.self)),
      waits_of_more c.args.core.now.world done goal c.loop-name.waits c.add_waits.new.waits c.loop-name.invariant.2 c.in_ok-add_waits.ensures,
    )

pub returns : goal.returns
returns c =
    let w = c.args.core.now.world in
    let done = c.loop-name.invariant.0 in
    let all : done ≡ finite.entries w.state.goals = sym (c.loop-name.invariant.1 ∙ ap (λ es. done ++ lent es) c.in-None.ensures.steps.0 ∙ append-nil done) in
    all_wait w c.loop-name.waits (subst (λ (goals : List Named). AreWaitsOf w goals c.loop-name.waits) all c.loop-name.invariant.2)
