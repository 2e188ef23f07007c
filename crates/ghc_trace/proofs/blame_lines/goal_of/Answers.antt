use Rattle.std.specs.Prelude.{IfSome}
use Rattle.ghc_trace.proofs.Words.{◌≡◌, Bor, Option, sym, ap, ◌∙◌, subst, option_copied, In, Record, Goals, List, AreDistinct, numbers, record_once}
use Rattle.std.specs.FinMap as finite
use Rattle.ghc_trace.proofs.BlameTold.{call_asked, call_taken, copied_there, named_asked, named_taken, taker_kept}
use Rattle.ghc_trace.proofs.Explained.{some_there}
use Rattle.ghc_trace.proofs.blame_lines.goal_of.Goals as goal

pub unwrap-step-requires : goal.unwrap-step-requires
unwrap-step-requires c =
    let told = c.requires.told in
    let at = c.requires.call in
    let q = taker_kept c.args.told.now told.0 told.1 told.2 at.0 c.args.call.now at.1 c.in-Some.number c.in-Some.is in
    some_there c.get.result _ c.get.ensures.none (λ none. none q.0 (subst (λ (l : List Record). In q.0 l) (sym c.records-records.ensures) q.1.0) q.1.1)

pub unwrap-requires : goal.unwrap-requires
unwrap-requires c =
    let told = c.requires.told in
    let at = c.requires.call in
    let held = c.records-records.result.now.held in
    let step = c.unwrap-step.result.now in
    let q = call_taken c.args.told.now told.0 told.1 told.2 at.0 c.args.call.now at.1 c.in-Some.number c.in-Some.is in
    let found = subst (λ (o : Option (Bor Record)). IfSome o (λ z. In z.now held × (z.now.number ≡ c.in-Some.number))) c.unwrap-step.ensures c.get.ensures.found in
    let one = record_once held q.0 step c.len-count.ensures.distinct (subst (λ (l : List Record). In q.0 l) (sym c.records-records.ensures) (told.2.world.steps.within q.0 q.2)) found.0 (q.3 ∙ sym found.1) in
    copied_there c.consumed.result q.1 (c.consumed.ensures ∙ ap (λ (z : Record). z.consumed) (sym one) ∙ q.5)

pub unwrap-requires-in-None : goal.unwrap-requires-in-None
unwrap-requires-in-None c =
    let told = c.requires.told in
    let at = c.requires.call in
    let q = call_asked c.args.told.now told.0 told.1 told.2 at.0 c.args.call.now at.1 c.in-None.is in
    copied_there c.get-in-None.result q.1.0 (c.get-in-None.ensures ∙ ap (λ (m : Goals). finite.get m c.args.call.now.name) c.goals.ensures ∙ q.1.1)

pub returns-in-Some : goal.returns-in-Some
returns-in-Some c rs t about =
    let at = c.requires.call in
    let held = c.records-records.result.now.held in
    let step = c.unwrap-step.result.now in
    let found = subst (λ (o : Option (Bor Record)). IfSome o (λ z. In z.now held × (z.now.number ≡ c.in-Some.number))) c.unwrap-step.ensures c.get.ensures.found in
    named_taken c.args.told.now rs t about at.0 c.args.call.now at.1 (subst (λ (l : List Record). AreDistinct (numbers l)) c.records-records.ensures c.len-count.ensures.distinct) c.in-Some.number c.in-Some.is step
    (subst (λ (l : List Record). In step l) c.records-records.ensures found.0, found.1) c.unwrap.result.now (sym c.consumed.ensures ∙ ap option_copied c.unwrap.ensures)

pub returns-in-None : goal.returns-in-None
returns-in-None c rs t about =
    let at = c.requires.call in
    named_asked c.args.told.now rs t about at.0 c.args.call.now at.1 c.in-None.is c.unwrap-in-None.result.now
    (ap (λ (m : Goals). finite.get m c.args.call.now.name) (sym c.goals.ensures) ∙ sym c.get-in-None.ensures ∙ ap option_copied c.unwrap-in-None.ensures)
