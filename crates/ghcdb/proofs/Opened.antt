-- What is answered for the texts of a program and a query, and then of a history, is answered for all of them.
use Rattle.ghcdb.proofs.CitedWords.{◌≡◌, ◌⊎◌, List, ℕ, inl, inr, refl, sym, subst, ◌∙◌, Option, Some, None, option_map, Result, Ok, Err, AnsweredUnless, Fault, Memory, Debugger, Refusal, Started, IsStarted, IsStartRefusal, IsNoMemoryFor, IsOutOfMemory, for_program, of_program, OpensOn, IsHistoryFault, IsHistoryRefused, IsDebuggerOf, IsOpenRefusal, of_start, of_history, IsWithoutMemory, at_start, for_history}
use Rattle.std.proofs.Common.{Bor, IfOk}
use Rattle.ghc_reader.specs.ClauseLines.{AreClauseLines}
use Rattle.ghc_reader.specs.Tests.{a_program, IsRefusal}
use Rattle.ghcdb.specs.declared.refused_part.RefusedPart.TheVariants as part

-- A refusal of program or query is one of the whole.
pub refused_at_start : (p q : List ℕ) (history : Option (List ℕ)) (r : Refusal) → IsOutOfMemory p r ⊎ IsStartRefusal p q r → IsWithoutMemory p q history r ⊎ IsOpenRefusal p q history r
refused_at_start p q history r (inl m) = inl (at_start m)
refused_at_start p q history r (inr f) = inr (of_start f)

-- A refusal of the program's text is one of the whole.
pub refused_for_lines : (p q : List ℕ) (history : Option (List ℕ)) (f : Fault) → (f ≡ Memory) ⊎ IsRefusal a_program p f
    → IsWithoutMemory p q history (record { part = part.Program; fault = f }) ⊎ IsOpenRefusal p q history (record { part = part.Program; fault = f })
refused_for_lines p q history f (inl m) = inl (at_start (for_program (record { fault = m; part_is = refl })))
refused_for_lines p q history f (inr r) = inr (of_start (of_program refl r))

-- Program and query are started, the lines of the clauses are known,
module _ (p q : List ℕ) (s : Started) (lines : List ℕ) (starts : IsStarted p q s) (begins : AreClauseLines p lines) where
  -- and no history is given;
  pub opened_fresh : (result : Result Debugger Refusal) → AnsweredUnless (IsNoMemoryFor part.Program) (λ debugger. OpensOn s None debugger.core.world debugger.spies) (λ _. ⊥) result → IfOk result (λ debugger. debugger.clause_lines ≡ lines)
      → AnsweredUnless (IsWithoutMemory p q None) (IsDebuggerOf p q None) (IsOpenRefusal p q None) result
  opened_fresh (Ok debugger) h same = (record { started = s; starts = starts; opens = h.0; lines = subst (AreClauseLines p) (sym same) begins }, tt)
  opened_fresh (Err r) h same = (tt, elim h.1 [ inl m ↦ inl (at_start (for_program m)) | inr none ↦ absurd none ])

  -- or one is given.
  pub opened_loaded : (text : List ℕ) (result : Result Debugger Refusal) → AnsweredUnless (IsNoMemoryFor part.History) (λ debugger. OpensOn s (Some text) debugger.core.world debugger.spies) (IsHistoryRefused s (Some text)) result
      → IfOk result (λ debugger. debugger.clause_lines ≡ lines) → AnsweredUnless (IsWithoutMemory p q (Some text)) (IsDebuggerOf p q (Some text)) (IsOpenRefusal p q (Some text)) result
  opened_loaded text (Ok debugger) h same = (record { started = s; starts = starts; opens = h.0; lines = subst (AreClauseLines p) (sym same) begins }, tt)
  opened_loaded text (Err r) h same = (tt, elim h.1 [ inl m ↦ inl (for_history s text starts refl m) | inr refused ↦ inr (of_history s starts refused) ])

-- What is answered for a history is answered for one that is the same.
pub answer_for : (p q : List ℕ) (given history : Option (Bor (List ℕ))) (result : Result Debugger Refusal) → given ≡ history
    → AnsweredUnless (IsWithoutMemory p q (option_map (λ text. text.now) history)) (IsDebuggerOf p q (option_map (λ text. text.now) history)) (IsOpenRefusal p q (option_map (λ text. text.now) history)) result
    → AnsweredUnless (IsWithoutMemory p q (option_map (λ text. text.now) given)) (IsDebuggerOf p q (option_map (λ text. text.now) given)) (IsOpenRefusal p q (option_map (λ text. text.now) given)) result
answer_for p q given history result same answer =
    subst (λ h. AnsweredUnless (IsWithoutMemory p q (option_map (λ text. text.now) h)) (IsDebuggerOf p q (option_map (λ text. text.now) h)) (IsOpenRefusal p q (option_map (λ text. text.now) h)) result) (sym same) answer

-- A refusal of the history says that memory was refused, or why the history is refused.
pub told_of_history : (s : Started) (text : List ℕ) (r : Refusal) (f : Fault) → r.part ≡ part.History → r.fault ≡ f → (f ≡ Memory) ⊎ IsHistoryFault s text f
    → IsNoMemoryFor part.History r ⊎ IsHistoryRefused s (Some text) r
told_of_history s text r f part_is is (inl m) = inl (record { fault = is ∙ m; part_is = part_is })
told_of_history s text r f part_is is (inr h) = inr (record { text = text; given = refl; part_is = part_is; fault = subst (IsHistoryFault s text) (sym is) h })
