use Rattle.ghc_core.proofs.Words.{◌≡◌, ◌∙◌, ap, sym, arith, Record, false≢true}
use Rattle.ghc_core.proofs.QueryVariables.{made_by}
use Rattle.ghc_core.proofs.variables.is_of_step.Goals as goal

pub returns-in-Some : goal.returns-in-Some
returns-in-Some c =
    let r : Record = c.in-Some.step.now in
    let found = c.in-Some.ensures.found in
    let fresh : c.fresh.result ≡ r.effect.fresh = c.fresh.ensures ∙ ap (λ e. e.fresh) c.effect.ensures in (
      λ yes. let within = c.is_place.ensures.0 yes in (r, found.0, (sym found.1, within.0, omega (arith, within.1, fresh))),
      λ m.
          let known = made_by c.args.records.now.held r c.args.x c.len-count.ensures.distinct found.0 found.1 m in
          c.is_place.ensures.1 (known.0, omega (arith, known.1, fresh)),
    )

pub returns-in-None : goal.returns-in-None
returns-in-None c = (λ no. absurd (false≢true no), λ m. absurd (c.in-None.ensures.none m.0 m.1 (sym m.2.0)))
