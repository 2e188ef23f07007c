-- What a reply says of a question, of a verdict, and of a refusal of both.
use Rattle.ghc_console.proofs.CitedWords.{◌≡◌, ◌≢◌, ◌⊎◌, ◌<◌, inl, inr, sym, subst, ap, ◌∙◌, slice_get_within, ℕ, List, Fault, VarName, World, IsVariableNamed, refusal}
use Rattle.ghc_term.specs.declared.fault.Fault.TheVariants as fault
use Rattle.ghc_term.specs.declared.limit.Limit.TheVariants as limit
use Rattle.ghc_term.specs.Lists.{In}
use Rattle.ghc_flat.specs.Variables.{variables_of_goals}
use Rattle.ghc_records.specs.Replay.{IsVariableOf}
use Rattle.ghc_core.specs.Core.{IsStanding}
use Rattle.ghc_core.proofs.QueryVariables.{in_of_number}
use Rattle.ghc_core.proofs.Reaching.{reached_good}
use Rattle.ghc_trace.specs.declared.judgements.Answer.{Answer}
use Rattle.ghc_trace.specs.declared.judgements.Subject.{Subject}
use Rattle.ghc_trace.specs.BlameLines.{HasAnswerBeside, HasTooLongBlame, IsNoPlace}
use Rattle.ghc_console.specs.BlameReplies.{RepliesOn, beside, no_place, too_long_to_blame}

-- a variable that a word names is the query's or a kept step's
pub named_known : (w : World) (word : List ℕ) (x : VarName) → IsStanding w → IsVariableNamed w word x → IsVariableOf w.opening.query w.kept x
named_known w word x standing (inl given) =
    let good = reached_good standing in
    let few = subst (λ (n : ℕ). given.0 < n) good.named.named (slice_get_within w.opening.names given.0 word given.1) in
    inl (subst (λ (z : VarName). In z (variables_of_goals w.opening.query)) (sym given.3) (in_of_number (variables_of_goals w.opening.query) given.0 good.asked.numbered few))
named_known w word x standing (inr numbered) = numbered.1

-- A refusal says why nothing is told of the subject.
pub blame_refused : (w : World) (s : Subject) (told : List Answer) (f : Fault) (text : List ℕ)
    → (f ≡ fault.Memory) ⊎ (f ≡ fault.NoVariable) ⊎ (f ≡ fault.NoGoal) ⊎ (f ≡ fault.Limit limit.Print)
    → (f ≡ fault.NoVariable → IsNoPlace w s) → (f ≡ fault.NoGoal → HasAnswerBeside w s told) → (f ≡ fault.Limit limit.Print → HasTooLongBlame w s told)
    → text ≡ refusal f → f ≢ fault.Memory → RepliesOn w s told text
blame_refused w s told f text (inl m) place answer long is kept = absurd (kept m)
blame_refused w s told f text (inr (inl q)) place answer long is kept = subst (RepliesOn w s told) (sym (is ∙ ap refusal q)) (no_place (place q))
blame_refused w s told f text (inr (inr (inl q))) place answer long is kept = subst (RepliesOn w s told) (sym (is ∙ ap refusal q)) (beside (answer q))
blame_refused w s told f text (inr (inr (inr q))) place answer long is kept = subst (RepliesOn w s told) (sym (is ∙ ap refusal q)) (too_long_to_blame (long q))
