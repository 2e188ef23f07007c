use Rattle.ghc_hooks.proofs.Words.{◌≡◌, [], rules, ap, ◌∙◌, to_z-of_z, integer, arith}
use mir.Val.{SFits}
use mir.Syntax.{w64}
use Rattle.ghc_hooks.proofs.Trying.{wanted_is_looked_at, waiting_note, bad_note, assigned_note, unassigned_note}
use Rattle.ghc_hooks.proofs.trial.try_assignment.Goals as goal

pub waiting-requires : goal.waiting-requires
waiting-requires c =
    wanted_is_looked_at [] c.args.store.now.held c.acyclic.ensures c.args.left.now c.args.value.now c.in_ok-looked.looked c.in_ok-looked.ensures
    c.in-Waits.awaited (rw c.in-Waits.is at c.in_ok-integer.ensures)

pub returns-in-Waits : goal.returns-in-Waits
returns-in-Waits c P =
    waiting_note P c.args.store.now.held c.acyclic.ensures c.args.left.now c.args.value.now c.in_ok-looked.looked c.in_ok-looked.ensures
    c.waiting.result c.waiting.ensures.looked c.in-Waits.awaited c.waiting.ensures.status (rw c.in-Waits.is at c.in_ok-integer.ensures)

pub returns-in-Bad : goal.returns-in-Bad
returns-in-Bad c P = grind (arith, bad_note)

pub returns-in-None : goal.returns-in-None
returns-in-None c P =
    let v = c.in-Number.integer in
    let fits : SFits w64 v = search rules in
    let right : c.integer.result ≡ integer v = c.integer.ensures ∙ ap integer (to_z-of_z w64 v fits) in
    assigned_note P c.args.store.now.held c.acyclic.ensures c.args.left.now c.args.value.now c.in_ok-looked.looked c.in_ok-looked.ensures
    c.ready.result c.ready.ensures.looked v (rw c.in-Number.is at c.in_ok-integer.ensures) c.ready.ensures.status
    (rw (c.in-None.is, right) at c.in_ok-refusal.ensures)

pub returns : goal.returns
returns c P = grind (arith, w64, integer, to_z-of_z, unassigned_note)
