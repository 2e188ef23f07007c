use Rattle.ghc_shared.proofs.Words.{◌≡◌, ◌⊎◌, sym, ap, refl, ◌∙◌, subst, subst₂, inl, inr, length, true, false, Fault}
use Rattle.std.proofs.Common.{rules}
use Rattle.ghc_term.specs.Lists.{In}
use Rattle.ghc_term.specs.declared.goal_name.GoalName.{GoalName}
use Rattle.ghc_core.specs.World.{IsNextStep}
use Rattle.ghc_shared.specs.inner.Calls.{LooksAmong}
use Rattle.ghc_shared.specs.inner.AtOnce.{IsTaken}
use Rattle.ghc_core.specs.EventCode.{reply_of}
use Rattle.ghc_shared.proofs.Answering.{gives_up}
use Rattle.ghc_shared.proofs.AtOnce.{found_is_told, full_has_goal, full_has_clause, found, taken_answer, full, none_proposed, at_once}
use Rattle.ghc_shared.proofs.CarriedOn.{moves_still, stays_after}
use Rattle.ghc_shared.proofs.locked.stepping.propose_and_take.Goals as goal

pub take-requires : goal.take-requires
take-requires c = subst (λ w. IsNextStep w c.in-Ok.step) (sym c.in-Ok.ensures.stays.world) c.in-Ok.ensures.answer.0.3.1

pub returns-in-Ok-clause-answered : goal.returns-in-Ok-clause-answered
returns-in-Ok-clause-answered c =
    let w = c.args.core.now.world in
    let v = c.take.new.core.world in
    let f = found w c.args.goal c.stands.ensures.standing c.stands.ensures.orderly.acyclic c.in-Ok.step c.in-Ok.ensures.answer.0 in
    let taken = subst (λ u. IsTaken u c.in-Ok.step (reply_of c.take.result) v) c.in-Ok.ensures.stays.world c.take.ensures.taken in
    let effect = c.effect-effect.ensures in
    let binds = c.binds.ensures ∙ ap (λ e. e.binds) effect ∙ f.3 in
    let makes = c.made-made.ensures ∙ ap (λ e. length e.makes) effect ∙ f.4 in
    let wakes = subst₂ (λ u m. (g : GoalName) → In g c.list_woken.new.list.items → In g c.args.woken.now.items ⊎ LooksAmong u m g) c.in-Ok.ensures.stays.world binds c.list_woken.ensures in
    at_once w c.args.goal c.stands.ensures.standing f.0 c.take.result c.made-made.result v c.args.woken.now.items c.list_woken.new.list.items f.1 (λ t. found_is_told (c.in-Ok.ensures.no_goal t)) (λ t. found_is_told (c.in-Ok.ensures.no_clause t))
    (taken_answer w c.args.goal f.0 c.in-Ok.step c.take.result v f.2 taken) (λ _. makes) wakes

pub returns-in-Err-Full-clause-answered : goal.returns-in-Err-Full-clause-answered
returns-in-Err-Full-clause-answered c =
    let w = c.args.core.now.world in
    let is = c.in-Err-Full.field-0-is in
    let told = c.in-Err-Full.ensures in
    let f = full w c.args.goal c.in-Err-Full.field-0 is told.answer.1 in
    at_once w c.args.goal c.stands.ensures.standing f.0 _ _ _ _ _ f.1 (λ t. full_has_goal is (told.no_goal t)) (λ t. full_has_clause is (told.no_clause t)) (gives_up w _ f.0 Fault.Full (inr f.2) told.stays.world) (λ t. let clash : false ≡ true = t in cc) (λ h i. inl i)

pub returns-in-Err-clause-refused : goal.returns-in-Err-clause-refused
returns-in-Err-clause-refused c =
    let told = c.in-Err.ensures in
    let not_full : c.in-Err.fault ≡ Fault.Full → ⊥ = λ e. search rules in
    none_proposed c.args.core.now.world c.args.goal c.stands.ensures.standing c.in-Err.fault told.answer.1 not_full told.no_goal told.no_clause

pub returns-in-Ok-clause-moves : goal.returns-in-Ok-clause-moves
returns-in-Ok-clause-moves c = moves_still _ _ _ c.in-Ok.ensures.stays c.take.ensures.moves

pub returns-in-Err-Full-clause-moves : goal.returns-in-Err-Full-clause-moves
returns-in-Err-Full-clause-moves c = inl (Fault.Full, refl)

pub returns-in-Ok-clause-still : goal.returns-in-Ok-clause-still
returns-in-Ok-clause-still c r = stays_after _ _ _ c.in-Ok.ensures.stays (c.take.ensures.stays r)

pub returns-in-Err-Full-clause-still : goal.returns-in-Err-Full-clause-still
returns-in-Err-Full-clause-still c _ = c.in-Err-Full.ensures.stays

pub returns-in-Err-clause-idle : goal.returns-in-Err-clause-idle
returns-in-Err-clause-idle c = c.in-Err.ensures.stays

pub returns-in-Ok-clause-counted : goal.returns-in-Ok-clause-counted
returns-in-Ok-clause-counted c = c.take.ensures.meter ∙ c.in-Ok.ensures.counted
