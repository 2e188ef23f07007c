use Rattle.ghc_fire.proofs.Words.{sym, ap, subst, ◌∙◌, Asks}
use Rattle.ghc_fire.proofs.Asking.{asks_with}
use Rattle.ghc_fire.proofs.ask.ask_as.Goals as goal

pub returns-clause-effect : goal.returns-clause-effect
returns-clause-effect c P defined =
    let gs = c.args.ask.now in
    let n = c.args.number in
    let e = c.new-effect.result in
    subst (λ hs. Asks P hs n e) (sym c.in_ok-asked.ensures)
    (asks_with gs n c.requires P c.fresh.result e c.fresh.ensures.askable c.fresh.ensures.new defined (c.new-effect.ensures.reads ∙ c.new.ensures) (c.new-effect.ensures.binds ∙ c.new-2.ensures)
    (c.new-effect.ensures.makes ∙ ap (λ m. m.goals) c.in_ok-makes.ensures ∙ c.in_ok-shared.ensures ∙ c.goals.ensures.goals ∙ c.in_ok-asked.ensures) (c.new-effect.ensures.fresh ∙ ap (λ m. m.fresh) c.in_ok-makes.ensures))
