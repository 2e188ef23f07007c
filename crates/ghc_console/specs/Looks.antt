-- The replies of commands that look and change nothing. They look at the record from a step on, at what depends on a step, at all causes, at the goal that a step took, and at what clauses say to a goal.
use Rattle.std.specs.Prelude.{◌≡◌, ◌⊎◌, ℕ, List, [], ◌∷◌, ◌++◌, codes, length, map, Option, Some, None}
use Rattle.std.specs.Fmt.{decimal}
use Rattle.std.specs.FinMap as finite
use Rattle.std.specs.List.{AllZip, concat}
use Rattle.ghc_term.specs.declared.fault.Fault.{Fault}
use Rattle.ghc_term.specs.declared.goal_name.GoalName.{GoalName}
use Rattle.ghc_term.specs.declared.var_name.VarName.{VarName}
use Rattle.ghc_term.specs.Tree.{Tree}
use Rattle.ghc_term.specs.Goal.{Goal, call, unify, assign, stream}
use Rattle.ghc_term.specs.Lists.{In}
use Rattle.ghc_term.specs.Sets.{Variables}
use Rattle.ghc_term.specs.Store.{value_at}
use Rattle.ghc_flat.specs.Clause.{Clause, Program, IsClause}
use Rattle.ghc_flat.specs.Numbers.{AreNumbersFor}
use Rattle.ghc_reader.specs.ClauseLines.{line_of}
use Rattle.ghc_match.specs.Match.{Accepts, HasOutcome, waits}
use Rattle.ghc_match.specs.Refusal.{RefusesAt}
use Rattle.ghc_match.specs.declared.refusal.RefusalPlace.{RefusalPlace}
use Rattle.ghc_match.specs.declared.refusal.RefusalPlace.TheVariants.{Argument, Test, Value}
use Rattle.ghc_fire.specs.declared.act.Act.{Act}
use Rattle.ghc_fire.specs.declared.act.Act.TheVariants.{ByClause as by_clause}
use Rattle.ghc_records.specs.Record.{Record, numbers}
use Rattle.ghc_records.specs.inner.Slots.{SlotList, StandsIn}
use Rattle.ghc_records.specs.StepText.{variables_text}
use Rattle.ghc_depend.specs.Depend.{AreConsequences, IsKeptAs, IsNotKept}
use Rattle.ghc_core.specs.World.{World}
use Rattle.ghc_trace.specs.declared.reasons.Reason.{Reason}
use Rattle.ghc_trace.specs.ReasonText.{reason_text}
use Rattle.ghc_trace.specs.StepGoals.{step_with_goal}
use Rattle.ghc_trace.specs.Why.{AreReasonsTold}
use Rattle.ghc_console.specs.TextLines.{lined, record_lines, refusal, text_lines, text_or_none}

-- RepliesToSince w n text: the line of the kept step n and those of all kept steps after it, in recorded order; or the refusal where no such step is kept.
pub data RepliesToSince (w : World) (n : ℕ) : List ℕ → Type 0 where
  tells_since : (before : List Record) (r : Record) (later : List Record) → w.kept ≡ before ++ r ∷ later → r.number ≡ n → RepliesToSince w n (record_lines (r ∷ later))
  since_no_step : IsNotKept w.kept n → RepliesToSince w n (refusal Fault.NotKept)

-- RepliesToEffects w n text: the line of each step that depends on the kept step n, directly or through others, in recorded order, and `none` where there is none. Or the refusal where no such step is kept.
pub data RepliesToEffects (w : World) (n : ℕ) : List ℕ → Type 0 where
  tells_effects : (r : Record) (found : List Record) → IsKeptAs w.kept n r → AreConsequences w.kept r found → RepliesToEffects w n (text_or_none (record_lines found))
  effects_of_no_step : IsNotKept w.kept n → RepliesToEffects w n (refusal Fault.NotKept)

-- The new text is the old one and the lines of the kept steps of these numbers, in this order.
abbrev pub TellsSteps : List Record → List ℕ → List ℕ → List ℕ → Type 0
TellsSteps kept ns before after = (steps : List Record) → ((r : Record) → In r steps → In r kept) → numbers steps ≡ ns → after ≡ before ++ record_lines steps

-- on which step the step n depends directly, and for which cause, as `3 1 made`
abbrev pub cause_text : ℕ → Reason → List ℕ
cause_text n reason = decimal n ++ (codes " " ++ reason_text reason)

-- The text tells each step on which the kept step r depends directly, in recorded order, a line each with its cause.
abbrev pub TellsCausesOf : List Record → Record → List ℕ → Type 0
TellsCausesOf kept r text = (reasons : List Reason) × AreReasonsTold kept r.number reasons × (text ≡ text_lines (map (cause_text r.number) reasons))

-- The new text is the old one and the causes of the step in the slot; the same text, where that is a gap.
abbrev pub TellsCausesAt : List Record → SlotList → ℕ → List ℕ → List ℕ → Type 0
TellsCausesAt kept ss place before after =
    ((r : Record) × (text : List ℕ) × StandsIn ss place r × TellsCausesOf kept r text × (after ≡ before ++ text)) ⊎ (((r : Record) → ¬ StandsIn ss place r) × (after ≡ before))

-- RepliesToCauses w text: for each kept step, in recorded order, a line for each step on which it depends directly; and `none` where there is no line.
abbrev pub RepliesToCauses : World → List ℕ → Type 0
RepliesToCauses w text = (told : List (List ℕ)) × AllZip (TellsCausesOf w.kept) w.kept told × (text ≡ text_or_none (concat told))

-- the line at which a clause begins, as ` line 7`; nothing where it is not known
abbrev pub line_text : Option ℕ → List ℕ
line_text None = []
line_text (Some line) = codes " line " ++ decimal line

-- the line at which the clause begins by which the act reduced a goal, where the clauses begin at these lines; nothing of another act
abbrev pub act_line_text : List ℕ → Act → List ℕ
act_line_text lines (by_clause k) = line_text (line_of lines k)
act_line_text lines act = []

-- RepliesToGoalOf lines w n text: the kept step n, then the goal that it took, as it was written then, and the line at which its clause begins, where the clauses begin at these lines; or the refusal where no such step is kept.
pub data RepliesToGoalOf (lines : List ℕ) (w : World) (n : ℕ) : List ℕ → Type 0 where
  tells_goal : (r : Record) → IsKeptAs w.kept n r → RepliesToGoalOf lines w n (lined (step_with_goal r ++ act_line_text lines r.act))
  goal_of_no_step : IsNotKept w.kept n → RepliesToGoalOf lines w n (refusal Fault.NotKept)

-- the place at which a clause refuses, counted from 1: `head 2` for an argument, `test 1`, or `value 1` for a test without a value
abbrev pub place_text : RefusalPlace → List ℕ
place_text (Argument k) = codes "head " ++ decimal k
place_text (Test k) = codes "test " ++ decimal k
place_text (Value k) = codes "value " ++ decimal k

-- TellsOutcome c ts S says: what the clause c says to a call with the arguments ts in the store S, as `yes`, `waits _0_1,_0_2` or `no head 2`.
pub data TellsOutcome (c : Clause) (ts : List Tree) (S : VarName → Option Tree) : List ℕ → Type 0 where
  tells_yes : Accepts c ts S → TellsOutcome c ts S (codes "yes")
  tells_waits : (xs : Variables) → HasOutcome c ts S (waits xs) → TellsOutcome c ts S (codes "waits " ++ variables_text xs)
  tells_no : (place : RefusalPlace) → RefusesAt c ts S place → TellsOutcome c ts S (codes "no " ++ place_text place)

-- The text tells what clause k says to a call with the arguments ts in the store S, and where it begins, as `2 waits _0_1 line 7`. The clauses begin at these lines.
pub record TellsClause (lines : List ℕ) (P : Program) (ts : List Tree) (S : VarName → Option Tree) (k : ℕ) (text : List ℕ) : Type 0 where
  pub clause : Clause
  pub is : IsClause P k clause
  pub says : List ℕ
  pub told : TellsOutcome clause ts S says
  pub written : text ≡ decimal k ++ (codes " " ++ (says ++ line_text (line_of lines k)))

-- The text tells for each clause of this name and arity, in order, what it says to a call with the arguments ts in the store S, and where it begins. The clauses begin at these lines.
abbrev pub TellsClauses : List ℕ → Program → List ℕ → List Tree → (VarName → Option Tree) → List ℕ → Type 0
TellsClauses lines P f ts S text = (ks : List ℕ) × (told : List (List ℕ)) × AreNumbersFor P f (length ts) ks × AllZip (TellsClause lines P ts S) ks told × (text ≡ text_lines told)

-- The reply on the clauses for the goal, if it is there: what each says to a call, and where it begins. The clauses begin at these lines. No clause is for a unification or an assignment, and a stream goal is none to be taken.
abbrev pub TellsClausesFor : List ℕ → World → Option Goal → List ℕ → Type 0
TellsClausesFor lines w (Some (call f ts)) text = TellsClauses lines w.opening.program f ts (value_at w.state.store) text
TellsClausesFor lines w (Some (unify l r)) text = text ≡ refusal Fault.NoClause
TellsClausesFor lines w (Some (assign t a)) text = text ≡ refusal Fault.NoClause
TellsClausesFor lines w (Some (stream k t)) text = text ≡ refusal Fault.NoGoal
TellsClausesFor lines w None text = text ≡ refusal Fault.NoGoal

-- RepliesToClauses lines w g text: what each clause says now to the goal named g, and where it begins; or the refusal where there is none such, or it is no call. The clauses begin at these lines.
abbrev pub RepliesToClauses : List ℕ → World → GoalName → List ℕ → Type 0
RepliesToClauses lines w g text = TellsClausesFor lines w (finite.get w.state.goals g) text
