use Rattle.ghc_core.proofs.Words.{◌≡◌, List, [], refl, sym, ◌∙◌, subst, inl, inr, In, Record, IsSplitAt, Gone, all_gone, Fault, Core, CanUndo, UndoFails}
use Rattle.ghc_core.proofs.Alone.{goes_alone}
use Rattle.ghc_core.proofs.Reaching.{reached_good}
use Rattle.ghc_core.proofs.Refusing.{not_kept, has_consequence}
use Rattle.ghc_core.proofs.core_state.Core.prepare_undo.Goals as goal

pub returns-in_default-clause-fault : goal.returns-in_default-clause-fault
returns-in_default-clause-fault c = inr (subst (λ (x : Core). UndoFails x.world.kept c.args.number Fault.NotKept) c.self.view_is (not_kept c.in_default.ensures.none))

pub returns-in-Some-first_consequence-clause-fault : goal.returns-in-Some-first_consequence-clause-fault
returns-in-Some-first_consequence-clause-fault c =
    let first = c.in-Some-first_consequence.ensures.found in
    inr (subst (λ (x : Core). UndoFails x.world.kept c.args.number (Fault.HasConsequence c.in-Some-first_consequence.step)) c.self.view_is
    (subst (λ n. UndoFails c.self.inside.records.held c.args.number (Fault.HasConsequence n)) first.4 (has_consequence first.0 first.1 first.2 first.3)))

pub returns-in-Err-clause-fault : goal.returns-in-Err-clause-fault
returns-in-Err-clause-fault c =
    let r = c.in-Some.kept.now in
    inl (refl, subst (λ (x : Core). CanUndo x.world.kept c.args.number) c.self.view_is (r, c.in-Some.ensures.found, λ b f. c.in_default-first_consequence.ensures.none r b c.in-Some.ensures.found f))

-- The step can go alone.
abbrev Can : List Record → Gone → Type 0
Can kept gone = In gone.first kept × ((left : List Record) × IsSplitAt kept gone.first (all_gone gone) left) × (gone.others ≡ [])

pub returns-in-Ok-clause-found : goal.returns-in-Ok-clause-found
returns-in-Ok-clause-found c =
    let kept = c.self.inside.records.held in
    let r = c.in-Some.kept.now in
    let found = c.in-Some.ensures.found in
    let alone = goes_alone kept (reached_good c.self.invariant.standing).kept_once r found.0 (λ b f. c.in_default-first_consequence.ensures.none r b found f) in
    let same : c.alone.result ≡ record { first = r; others = [] } = c.alone.ensures ∙ (λ i. record { first = c.in-Ok.ensures i; others = [] }) in
    subst (λ (x : Core). Can x.world.kept c.alone.result) c.self.view_is (subst (Can kept) (sym same) (found.0, alone, refl))
