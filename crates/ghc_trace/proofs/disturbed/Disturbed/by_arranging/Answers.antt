use Rattle.ghc_trace.proofs.Words.{◌⊎◌, subst, inl, inr, LooksWhere, Gathers}
use Rattle.ghc_trace.proofs.Gathering.{gathers_none}
use Rattle.ghc_trace.proofs.Disturbing.{gathered_disturbed}
use Rattle.ghc_trace.proofs.disturbed.Disturbed.by_arranging.Goals as goal

pub returns : goal.returns
returns c notes =
    let es = c.new.result.goals.items in
    let none : Gathers notes (λ g. LooksWhere notes (λ x. ⊥) g ⊎ ⊥) es es = gathers_none notes (λ g. LooksWhere notes (λ x. ⊥) g ⊎ ⊥) es (λ g h. elim h [ inl l ↦ l.1 | inr never ↦ never ]) in
    gathered_disturbed notes (λ x. ⊥) (λ g. ⊥) es c.of.result (subst (λ old. Gathers notes (λ g. LooksWhere notes (λ x. ⊥) g ⊎ ⊥) old es) c.new.ensures none) c.of.ensures.members c.of.ensures.gathered
