use Rattle.ghc_records.proofs.Words.{◌≡◌, ◌∙◌, sym, ap, arith, nat_tests, held_before, Record, MakesVariable}
use Rattle.ghc_records.proofs.SlotFronts.{front_distinct}
use Rattle.ghc_records.proofs.MakersOf.{none_made, one_made, not_made}
use Rattle.ghc_records.proofs.table.makers.maker_of.Goals.{then-x-eq0-via-then-x-eq0, then-x-eq0-via-else-x-eq0+then-x-fresh}
use Rattle.ghc_records.proofs.table.makers.maker_of.Goals as goal

pub returns-in_default : goal.returns-in_default
returns-in_default c =
    none_made (held_before c.args.before c.args.slots.now.held) (λ (a : Record). MakesVariable a c.args.x) c.args.x.step (λ a k. k.0)
    (λ a i e _. c.in_default.ensures.none a i e)

pub returns-then-x-eq0 : goal.returns-then-x-eq0
returns-then-x-eq0 c =
    let maker = c.in-Some.maker.now in
    let found = c.in-Some.ensures.found in
    not_made (held_before c.args.before c.args.slots.now.held) (λ (a : Record). MakesVariable a c.args.x) c.args.x.step (λ a k. k.0) maker
    (front_distinct c.args.slots.now.held c.args.before c.len-count.ensures.distinct) found.0 found.1 (elim c.then-x-eq0.branch [
      | then-x-eq0-via-then-x-eq0 w ↦ λ makes. absurd (grind (arith, nat_tests, w.if-x-eq0.true, makes.1))
      | then-x-eq0-via-else-x-eq0+then-x-fresh w ↦ λ makes.
          let fresh : w.fresh.result ≡ maker.effect.fresh = w.fresh.ensures ∙ ap (λ e. e.fresh) w.effect.ensures in
          absurd (grind (arith, nat_tests, w.if-x-fresh.true, fresh, makes.2))
    ])

pub returns : goal.returns
returns c =
    let maker = c.in-Some.maker.now in
    let found = c.in-Some.ensures.found in
    let fresh : c.fresh.result ≡ maker.effect.fresh = c.fresh.ensures ∙ ap (λ e. e.fresh) c.effect.ensures in
    one_made (held_before c.args.before c.args.slots.now.held) (λ (a : Record). MakesVariable a c.args.x) c.args.x.step (λ a k. k.0)
    maker found.0 (sym found.1, grind (arith, nat_tests), grind (arith, nat_tests))
