use Rattle.ghc_hooks.proofs.Words.{◌∙◌, subst, HasLookedAt, In}
use Rattle.ghc_hooks.proofs.Waking.{first_is, first_is_none}
use Rattle.ghc_hooks.proofs.tries.Tries.first_looking_at.Goals as goal

pub returns-clause-some : goal.returns-clause-some
returns-clause-some c =
    first_is (HasLookedAt c.args.self.now.notes c.args.x) c.looking_at.result.now (λ g. (c.looking_at.ensures.each g).0) c.copied.result (c.copied.ensures ∙ c.first.ensures.value)

pub returns-clause-none : goal.returns-clause-none
returns-clause-none c =
    first_is_none c.looking_at.result.now (λ none g p. subst (In g) none ((c.looking_at.ensures.each g).1 p)) c.copied.result
    (c.copied.ensures ∙ c.first.ensures.value)
