use Rattle.ghc_core.proofs.Words.{◌≡◌, ap, ◌∙◌, Some, Ok, Err, value_at, stream, Feeds, Given as given, Core, at_some}
use Rattle.ghc_core.proofs.StreamSteps.{stream_step}
use Rattle.ghc_core.proofs.core_state.Core.prepare_input.Goals as goal

pub returns-clause-answer : goal.returns-clause-answer
returns-clause-answer c =
    let w = c.args.self.now.world in
    let k = c.args.stream in
    let s = c.in-Ok.open.1 in
    let e = c.in-Ok-Some.effect in
    let store = c.store.ensures ∙ ap (λ (x : Core). x.world.state.store) c.self.view_is in
    let number : c.self.inside.next ≡ w.next = ap (λ (x : Core). x.world.next) c.self.view_is in
    let fed : Feeds k s c.args.input.now w.next (value_at w.state.store) e =
    rw (number, store) at (at_some (Feeds c.args.stream c.in-Ok.open.1 c.args.input.now c.self.inside.next (value_at c.store.result.now.held))
    c.in-Ok-Some.field-0 e c.in-Ok-Some.field-0-is c.in-Ok-Some.ensures.fed) in
    let made : c.in_ok-stream_addition.field-0 ≡ record { number = w.next; goal = Some c.in-Ok.open.0; consumed = Some (stream k s); act = given c.args.input.now; effect = e } =
    cc (c.in_ok-stream_addition.ensures, c.stream-goal.ensures, c.in_ok-share.ensures) in
    (stream_step w k (given c.args.input.now) c.in-Ok.open.0 s e c.in_ok-stream_addition.field-0 c.in-Ok.ensures.found fed c.in-Ok.ensures.room made, tt)

pub returns-in-Err-feed-clause-anyway : goal.returns-in-Err-feed-clause-anyway
returns-in-Err-feed-clause-anyway c f fails = let no : Ok c.in-Ok.open ≡ Err f = c.in-Ok.ensures.anyway f fails in cc

pub returns-in_err-share-clause-anyway : goal.returns-in_err-share-clause-anyway
returns-in_err-share-clause-anyway c f fails = let no : Ok c.in-Ok.open ≡ Err f = c.in-Ok.ensures.anyway f fails in cc

pub returns-in_err-stream_addition-clause-anyway : goal.returns-in_err-stream_addition-clause-anyway
returns-in_err-stream_addition-clause-anyway c f fails = let no : Ok c.in-Ok.open ≡ Err f = c.in-Ok.ensures.anyway f fails in cc

pub returns-clause-anyway : goal.returns-clause-anyway
returns-clause-anyway c f fails = let no : Ok c.in-Ok.open ≡ Err f = c.in-Ok.ensures.anyway f fails in cc
