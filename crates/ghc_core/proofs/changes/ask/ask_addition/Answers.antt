use Rattle.ghc_core.proofs.Words.{sym, ap, ◌∙◌, subst, asked_as, Record}
use Rattle.ghc_fire.specs.Asked.{Asks}
use Rattle.ghc_core.proofs.changes.ask.ask_addition.Goals as goal

pub returns-clause-effect : goal.returns-clause-effect
returns-clause-effect c P defined =
    let n = c.args.number in
    let asks = subst (λ gs. Asks P gs n c.in_ok-asked.effect) c.in_ok-asked.ensures.asked (c.in_ok-asked.ensures.effect P defined) in
    subst (Asks P (asked_as n c.args.ask.now) n) (sym (ap (λ (r : Record). r.effect) (c.in_ok-addition.ensures ∙ c.in_ok-step.ensures))) asks
