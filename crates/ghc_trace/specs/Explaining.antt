-- What `explain` tells of the steps of a slice, and of those who hold a variable.
use Rattle.std.specs.Prelude.{ℕ, List, [], ◌∷◌, ◌++◌, codes}
use Rattle.std.specs.Fmt.{decimal}
use Rattle.ghc_term.specs.Text.{variable_text}
use Rattle.ghc_records.specs.Record.{Record}
use Rattle.ghc_records.specs.StepText.{goal_name_text, record_text}
use Rattle.ghc_depend.specs.Depend.{IsKeptAs}
use Rattle.ghc_hooks.specs.Status.{Status}
use Rattle.ghc_core.specs.World.{World}
use Rattle.ghc_trace.specs.declared.holding.Holder.{Holder}
use Rattle.ghc_trace.specs.News.{Stands, status_text}
use Rattle.ghc_trace.specs.OtherClauses.{AreOtherClauses}

-- more of the other clauses, each after a comma
abbrev pub more_text : List ℕ → List ℕ
more_text [] = []
more_text (k ∷ ks) = codes "," ++ (decimal k ++ more_text ks)

-- the other clauses after the text of a record, as ` or 3,4`, and nothing where there is none
abbrev pub others_text : List ℕ → List ℕ
others_text [] = []
others_text (k ∷ ks) = codes " or " ++ (decimal k ++ more_text ks)

-- the line of a step, with the other clauses by which it could have been
abbrev pub step_line : Record → List ℕ → List ℕ
step_line r others = record_text r ++ (others_text others ++ codes "\n")

-- AreStepLines w ns text: the text is a line for each kept step of these numbers, in their order, with the other clauses by which it could have been.
pub data AreStepLines (w : World) : List ℕ → List ℕ → Type 0 where
  no_step : AreStepLines w [] []
  and_step : {ns text : List ℕ} {n : ℕ} (r : Record) (others : List ℕ) → AreStepLines w ns text → IsKeptAs w.kept n r → AreOtherClauses w r others
      → AreStepLines w (ns ++ n ∷ []) (text ++ step_line r others)

-- the line of a variable with a goal that holds it, as `_0_1 in 0.3 waits _0_3`
abbrev pub holder_line : Holder → Status → List ℕ
holder_line h s = variable_text h.variable ++ (codes " in " ++ (goal_name_text h.goal ++ (codes " " ++ (status_text s ++ codes "\n"))))

-- AreHolderLines w hs text: the text is a line for each of the holders, in their order, with the status of its goal.
pub data AreHolderLines (w : World) : List Holder → List ℕ → Type 0 where
  no_holder : AreHolderLines w [] []
  and_holder : {hs : List Holder} {text : List ℕ} (h : Holder) (s : Status) → AreHolderLines w hs text → Stands w h.goal s → AreHolderLines w (hs ++ h ∷ []) (text ++ holder_line h s)
