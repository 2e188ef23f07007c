use Rattle.ghc_core.proofs.Words.{◌≡◌, ap, subst, ◌∙◌, Some, Ok, Err, value_at, stream, Closes, Closed as closed, Core, at_some}
use Rattle.ghc_core.proofs.StreamSteps.{stream_step}
use Rattle.ghc_core.proofs.core_state.Core.prepare_close.Goals as goal

pub returns-in-Err-close-clause-anyway : goal.returns-in-Err-close-clause-anyway
returns-in-Err-close-clause-anyway c f fails = let no : Ok c.in-Ok.open ≡ Err f = c.in-Ok.ensures.anyway f fails in cc

pub returns-in_err-stream_addition-clause-anyway : goal.returns-in_err-stream_addition-clause-anyway
returns-in_err-stream_addition-clause-anyway c f fails = let no : Ok c.in-Ok.open ≡ Err f = c.in-Ok.ensures.anyway f fails in cc

pub returns-clause-anyway : goal.returns-clause-anyway
returns-clause-anyway c f fails = let no : Ok c.in-Ok.open ≡ Err f = c.in-Ok.ensures.anyway f fails in cc

pub returns-clause-answer : goal.returns-clause-answer
returns-clause-answer c =
    let w = c.args.self.now.world in
    let k = c.args.stream in
    let s = c.in-Ok.open.1 in
    let e = c.in-Ok-Some.effect in
    let store = c.store.ensures ∙ ap (λ (x : Core). x.world.state.store) c.self.view_is in
    let closes : Closes s (value_at w.state.store) e = subst (λ m. Closes s (value_at m) e) store (at_some (Closes s (value_at c.store.result.now.held)) c.in-Ok-Some.field-0 e c.in-Ok-Some.field-0-is c.in-Ok-Some.ensures.closed) in
    let number : c.self.inside.next ≡ w.next = ap (λ (x : Core). x.world.next) c.self.view_is in
    let made : c.in_ok-stream_addition.field-0 ≡ record { number = w.next; goal = Some c.in-Ok.open.0; consumed = Some (stream k s); act = closed; effect = e } =
    cc (c.in_ok-stream_addition.ensures, c.stream-goal.ensures) in
    (stream_step w k closed c.in-Ok.open.0 s e c.in_ok-stream_addition.field-0 c.in-Ok.ensures.found closes c.in-Ok.ensures.room made, tt)
