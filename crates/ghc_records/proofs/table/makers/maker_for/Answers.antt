use Rattle.ghc_records.proofs.Words.{◌≡◌, ◌∙◌, sym, ap, length, arith, nat_tests, held_before, Record, Consumes}
use Rattle.ghc_records.proofs.IndexOf.{made_named}
use Rattle.ghc_records.proofs.SlotFronts.{front_distinct}
use Rattle.ghc_records.proofs.MakersOf.{none_made, one_made, not_made}
use Rattle.ghc_records.proofs.table.makers.maker_for.Goals.{then-name-eq0-via-then-name-eq0, then-name-eq0-via-else-name-eq0+then-name-made}
use Rattle.ghc_records.proofs.table.makers.maker_for.Goals as goal

pub returns-in_default-get_before : goal.returns-in_default-get_before
returns-in_default-get_before c =
    let r = c.args.step.now in
    let named = λ (a : Record). made_named r a c.in-Some.name (sym c.goal.ensures ∙ c.in-Some.is) in
    none_made (held_before c.args.before c.args.slots.now.held) (Consumes r) c.in-Some.name.step (λ a k. (named a k).0) (λ a i e _. c.in_default-get_before.ensures.none a i e)

pub returns-then-name-eq0 : goal.returns-then-name-eq0
returns-then-name-eq0 c =
    let r = c.args.step.now in
    let maker = c.in-Some-get_before.maker.now in
    let found = c.in-Some-get_before.ensures.found in
    let named = λ (a : Record). made_named r a c.in-Some.name (sym c.goal.ensures ∙ c.in-Some.is) in
    not_made (held_before c.args.before c.args.slots.now.held) (Consumes r) c.in-Some.name.step (λ a k. (named a k).0) maker
    (front_distinct c.args.slots.now.held c.args.before c.len-count.ensures.distinct) found.0 found.1 (λ k. let makes = named maker k in elim c.then-name-eq0.branch [
      | then-name-eq0-via-then-name-eq0 w ↦ grind (arith, nat_tests, w.if-name-eq0.true, makes.1)
      | then-name-eq0-via-else-name-eq0+then-name-made w ↦ let made : w.made.result ≡ length maker.effect.makes = w.made.ensures ∙ ap (λ e. length e.makes) w.effect.ensures in
          grind (arith, nat_tests, w.if-name-made.true, made, makes.2)
    ])

pub returns : goal.returns
returns c =
    let r = c.args.step.now in
    let name = c.in-Some.name in
    let maker = c.in-Some-get_before.maker.now in
    let found = c.in-Some-get_before.ensures.found in
    let is = sym c.goal.ensures ∙ c.in-Some.is in
    let made : c.made.result ≡ length maker.effect.makes = c.made.ensures ∙ ap (λ e. length e.makes) c.effect.ensures in
    one_made (held_before c.args.before c.args.slots.now.held) (Consumes r) name.step (λ a k. (made_named r a name is k).0) maker
    found.0 (name, is, (sym found.1, grind (arith, nat_tests), grind (arith, nat_tests)))
