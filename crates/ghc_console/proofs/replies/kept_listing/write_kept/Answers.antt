use Rattle.ghc_console.proofs.CitedWords.{inl, inr, subst, sym, ◌∙◌, AskForGoals, RepliesToSaveSteps, has_asked, refusal, tells_history}
use Rattle.ghc_term.specs.declared.fault.Fault.TheVariants as fault
use Rattle.ghc_term.specs.declared.limit.Limit.TheVariants as limit
use Rattle.ghc_console.proofs.ListedLines.{line_alone}
use Rattle.ghc_console.proofs.replies.kept_listing.write_kept.Goals as goal

pub returns-then-asks_for_goals-clause-told : goal.returns-then-asks_for_goals-clause-told
returns-then-asks_for_goals-clause-told g c =
    let w = c.args.core.now.world in
    let wrote = c.write_refusal.ensures.told in
    let asked = c.asks_for_goals.ensures.0 c.if-asks_for_goals.true in (
      wrote.0,
      elim (line_alone (refusal (fault.Limit limit.Version)) wrote.0 wrote.1) [
        | inl e ↦ inl (subst (RepliesToSaveSteps w) (sym e) (has_asked asked))
        | inr m ↦ inr m
      ],
      wrote.2,
    )

pub returns-clause-told : goal.returns-clause-told
returns-clause-told g c =
    let wrote = c.write_history.ensures.told in
    let none : ¬ AskForGoals c.args.core.now.world.kept = λ asked. (let clash = sym (c.asks_for_goals.ensures.1 asked) ∙ c.if-asks_for_goals.false in cc) in
    (wrote.0, inl (tells_history none wrote.1), wrote.2)
