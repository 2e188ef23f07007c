use Rattle.ghc_trace.proofs.Words.{◌≡◌, ◌∙◌, true, false, refl, sym}
use Rattle.ghc_trace.proofs.lost.is_by_clause.Goals as goal

pub returns-in-ByClause : goal.returns-in-ByClause
returns-in-ByClause c = (λ _. (c.in-ByClause.field-0, sym c.act.ensures ∙ c.in-ByClause.is), λ _. refl)

pub returns-in_default : goal.returns-in_default
returns-in_default c = (λ h. let clash : false ≡ true = h in absurd (cc), λ q. absurd (c.in_default.not-ByClause q.0 (c.act.ensures ∙ q.1)))
