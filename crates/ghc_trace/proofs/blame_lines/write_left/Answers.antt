use Rattle.ghc_trace.proofs.Words.{◌≡◌, ◌++◌, [], true, Some, None, refl, sym, ap, ◌∙◌, subst, inl, inr, append-nil, append_assoc, arith, nat_tests, codes, string_bytes, option_copied, Goals, Descends, same_value}
use Rattle.std.specs.FinMap as finite
use Rattle.ghc_trace.proofs.BlameTold.{copied_there, descends_here, descends_there}
use Rattle.ghc_trace.proofs.CausePlaces.{on_ok}
use Rattle.ghc_trace.proofs.blame_lines.write_left.Goals as goal

pub returns-in_default-clause-text : goal.returns-in_default-clause-text
returns-in_default-clause-text c rs t about = ([], inr ((λ h e. let clash : None ≡ Some h = sym c.in_default.is ∙ e in cc), refl), sym (append-nil (string_bytes c.args.out.now)))

pub returns-then-not-descends-clause-text : goal.returns-then-not-descends-clause-text
returns-then-not-descends-clause-text c rs t about =
    let d = c.args.told.now in
    let w = d.core.now.world in
    let none : ¬ Descends w.kept c.args.name c.in-Some.target = λ x. let yes = c.descends.ensures.1 x in absurd (grind (arith, nat_tests, yes, c.if-not-descends.true)) in (
      [],
      inr (
        (λ h e x. none (descends_there w.opening.program w.opening.query w.kept rs w.state c.stands.ensures.replay about.world.steps.within about.world.causes c.args.name
            (subst (λ z. Descends rs c.args.name z) (same_value e c.in-Some.is) x))),
        refl,
      ),
      sym (append-nil (string_bytes c.args.out.now)),
    )

pub unwrap-goal-requires : goal.unwrap-goal-requires
unwrap-goal-requires c =
    let q = c.requires.told.2.there c.in-Some.target c.in-Some.is in
    copied_there c.get.result q.0 (c.get.ensures ∙ ap (λ (goals : Goals). finite.get goals c.in-Some.target) c.goals.ensures ∙ q.1)

pub write_standing-requires-clause-there : goal.write_standing-requires-clause-there
write_standing-requires-clause-there c =
    ap (λ (goals : Goals). finite.get goals c.in-Some.target) (sym c.goals.ensures) ∙ sym c.get.ensures ∙ ap option_copied c.unwrap-goal.ensures

pub returns-clause-text : goal.returns-clause-text
returns-clause-text c = on_ok c.write_standing.result c.write_standing.ensures.text (λ (text, tells, eq) rs t about.
    let d = c.args.told.now in
    let w = d.core.now.world in
    let target = c.in-Some.target in
    let yes : c.descends.result ≡ true = grind (arith, nat_tests, c.if-not-descends.false) in
    let below = descends_here w.opening.program w.opening.query w.kept rs w.state c.stands.ensures.replay about.world.steps.within about.world.causes c.args.name (c.descends.ensures.0 yes)
    (λ r i makes. about.makers target r c.in-Some.is i makes) in (
      codes "left " ++ text,
      inl (target, tells.0, c.in-Some.is, below, tells.1, ap (λ l. codes "left " ++ l) tells.2),
      eq ∙ ap (λ m. m ++ text) c.in_ok-push_str.ensures.bytes ∙ append_assoc (string_bytes c.args.out.now) (codes "left ") text,
    ))
