use Rattle.ghc_trace.proofs.Words.{◌≡◌, ◌∙◌, sym, ap, length, arith, nat_tests}
use Rattle.ghc_trace.proofs.WayUp.{not_of_it}
use Rattle.ghc_trace.proofs.descent.maker_of.Goals.{then-goal-eq0-via-then-goal-eq0, then-goal-eq0-via-else-goal-eq0+then-goal-made}
use Rattle.ghc_trace.proofs.descent.maker_of.Goals as goal

pub returns-in_default-clause-none : goal.returns-in_default-clause-none
returns-in_default-clause-none c r i m = c.in_default.ensures.none r i (sym m.0)

pub returns-then-goal-eq0-clause-none : goal.returns-then-goal-eq0-clause-none
returns-then-goal-eq0-clause-none c =
    let maker = c.in-Some.maker.now in
    let found = c.in-Some.ensures.found in
    not_of_it c.args.records.now.held maker c.args.goal c.len-count.ensures.distinct found.0 found.1 (elim c.then-goal-eq0.branch [
      | then-goal-eq0-via-then-goal-eq0 w ↦ λ makes. absurd (grind (arith, nat_tests, w.if-goal-eq0.true, makes.1))
      | then-goal-eq0-via-else-goal-eq0+then-goal-made w ↦ λ makes. let made : w.made.result ≡ length maker.effect.makes = w.made.ensures ∙ ap (λ e. length e.makes) w.effect.ensures in
          absurd (grind (arith, nat_tests, w.if-goal-made.true, made, makes.2))
    ])
