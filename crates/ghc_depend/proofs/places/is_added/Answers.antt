use Rattle.ghc_depend.proofs.Words.{sym, ◌∙◌, inl, inr, number_in, number_of, number_any}
use Rattle.std.proofs.lemmas.Bool.{not-true, not-false}
use Rattle.ghc_depend.proofs.OrderWalks.{not_any}
use Rattle.ghc_depend.proofs.places.is_added.Goals as goal

pub returns-in_default-clause-wrong : goal.returns-in_default-clause-wrong
returns-in_default-clause-wrong c _ = inl (λ i. let q = number_of c.args.records.now.held c.args.number i in c.in_default.ensures.none q.0 q.1 q.2)

pub returns-in-Ok-clause-kept : goal.returns-in-Ok-clause-kept
returns-in-Ok-clause-kept c _ = let found = c.in-Some.ensures.found in rw (← found.1) (number_in c.args.records.now.held _ found.0)

pub returns-in-Ok-clause-new : goal.returns-in-Ok-clause-new
returns-in-Ok-clause-new c t = not_any c.args.number c.args.places.now.keys (not-true _ (sym c.in-Ok.ensures.added ∙ t))

pub returns-in-Ok-clause-wrong : goal.returns-in-Ok-clause-wrong
returns-in-Ok-clause-wrong c f = inr (number_any c.args.number c.args.places.now.keys (not-false _ (sym c.in-Ok.ensures.added ∙ f)))

pub returns-in-Ok-clause-unkept : goal.returns-in-Ok-clause-unkept
returns-in-Ok-clause-unkept c none = let found = c.in-Some.ensures.found in absurd (none (rw (← found.1) (number_in c.args.records.now.held _ found.0)))

pub returns-in-Err-clause-unkept : goal.returns-in-Err-clause-unkept
returns-in-Err-clause-unkept c none = let found = c.in-Some.ensures.found in absurd (none (rw (← found.1) (number_in c.args.records.now.held _ found.0)))
