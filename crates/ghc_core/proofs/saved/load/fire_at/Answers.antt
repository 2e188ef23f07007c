use Rattle.ghc_core.proofs.Words.{sym, ◌∙◌, Some}
use Rattle.ghc_core.proofs.Loading.{possible_as, impossible_there}
use Rattle.ghc_core.proofs.saved.load.fire_at.Goals as goal

pub returns-in_default-clause-none : goal.returns-in_default-clause-none
returns-in_default-clause-none c =
    let a = c.args in
    let none = rw c.in_default.is at c.in_ok-found.ensures.none in
    impossible_there a.program.now a.state.now.held a.step.now a.name a.goal.now c.requires.named c.requires.there (λ e has.
    none e (rw (c.goal.ensures, c.act.ensures, c.number-number.ensures, c.store.ensures) has))

pub returns-clause-some : goal.returns-clause-some
returns-clause-some c =
    let a = c.args in
    let e = c.in-Some.effect in
    let has = rw c.in-Some.is at c.in_ok-found.ensures.some in
    possible_as a.program.now a.state.now.held a.step.now a.name a.goal.now e c.in_ok-record.record c.requires.named c.requires.there
    (rw (sym c.goal.ensures, sym c.act.ensures, sym c.number-number.ensures, sym c.store.ensures) has)
    (c.in_ok-record.ensures ∙ (λ i. record { number = c.number-number.ensures i; goal = Some a.name; consumed = Some (c.in_ok-consumed.ensures i); act = (c.in_ok-act.ensures ∙ c.act-2.ensures) i; effect = e }))
