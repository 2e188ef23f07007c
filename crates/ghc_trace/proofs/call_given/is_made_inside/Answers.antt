use Rattle.ghc_trace.proofs.Words.{◌≡◌, true, false, sym, ◌∙◌, subst, arith, nat_tests, In}
use Rattle.ghc_trace.proofs.PartFinding.{in_numbers, made_end}
use Rattle.ghc_trace.proofs.call_given.is_made_inside.Goals as goal

pub returns-then-not-contains : goal.returns-then-not-contains
returns-then-not-contains c =
    let has = in_numbers c.args.part.now c.args.x.step c.contains.result c.contains.ensures in (
      λ h. let clash : false ≡ true = h in cc,
      λ (other, (q, i, number, makes)).
          let yes = has.1 (subst (λ k. In k c.args.part.now.keys) (sym makes.0) number) in
          absurd (grind (arith, nat_tests, yes, c.if-not-contains.true)),
    )

pub returns : goal.returns
returns c =
    let has = in_numbers c.args.part.now c.args.x.step c.contains.result c.contains.ensures in
    let yes : c.contains.result ≡ true = grind (arith, nat_tests, c.if-not-contains.false) in
    let other : ¬ (c.args.x.step ≡ c.args.number) = λ e. absurd (grind (arith, nat_tests, c.if-x-number.false, e)) in
    let both = made_end c.args.records.now.held c.args.records.now.slots c.args.part.now.keys c.args.number c.args.x c.place_of_maker.result c.len-count.ensures.slots c.place_of_maker.ensures other (has.0 yes) in
    (λ h. both.0 (sym c.is_some.ensures ∙ h), λ m. c.is_some.ensures ∙ both.1 m)
