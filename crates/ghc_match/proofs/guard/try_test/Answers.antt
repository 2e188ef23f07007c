use Rattle.ghc_match.proofs.Words.{◌≡◌, true, false, sym, ◌∙◌}
use Rattle.ghc_match.proofs.guard.try_test.Goals as goal

pub returns-in-Some-clause-says : goal.returns-in-Some-clause-says
returns-in-Some-clause-says c = rw (← c.in-Some.ensures) c.compare_small.ensures.says

pub returns-then-branch-clause-wanted : goal.returns-then-branch-clause-wanted
returns-then-branch-clause-wanted c = rw (c.deref.ensures.value ∙ c.in_ok-names.ensures) at c.in_ok-look_at_all.ensures.wanted

pub returns-then-branch-clause-looked : goal.returns-then-branch-clause-looked
returns-then-branch-clause-looked c = rw (c.deref.ensures.value ∙ c.in_ok-names.ensures) at c.in_ok-look_at_all.ensures.looked

pub returns-then-branch-2-clause-says : goal.returns-then-branch-2-clause-says
returns-then-branch-2-clause-says c =
    let waits = rw (c.deref.ensures.value ∙ c.in_ok-names.ensures) at c.in_ok-look_at_all.ensures.waits.1 in
    (λ x w. let clash : false ≡ true = sym c.if-branch.false ∙ waits (x, w) in cc, c.in_ok-holds.ensures.0 c.if-branch-2.true)

pub returns-then-branch-2-clause-looked : goal.returns-then-branch-2-clause-looked
returns-then-branch-2-clause-looked c = rw (c.deref.ensures.value ∙ c.in_ok-names.ensures) at c.in_ok-look_at_all.ensures.looked

pub returns-clause-says : goal.returns-clause-says
returns-clause-says c =
    let waits = rw (c.deref.ensures.value ∙ c.in_ok-names.ensures) at c.in_ok-look_at_all.ensures.waits.1 in (
      λ x w. let clash : false ≡ true = sym c.if-branch.false ∙ waits (x, w) in cc,
      λ h. let clash : false ≡ true = sym c.if-branch-2.false ∙ c.in_ok-holds.ensures.1 h in cc,
    )

pub returns-clause-looked : goal.returns-clause-looked
returns-clause-looked c = rw (c.deref.ensures.value ∙ c.in_ok-names.ensures) at c.in_ok-look_at_all.ensures.looked
