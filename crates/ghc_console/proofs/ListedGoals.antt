-- The lines of goals: how far their writing has come, and what they tell.
use Rattle.ghc_console.proofs.CitedWords.{◌≡◌, ◌≢◌, ◌⊎◌, ℕ, List, [], ◌∷◌, ◌++◌, codes, length, take, refl, sym, ap, ◌∙◌, subst, inl, inr, append_assoc, append-nil, concat, concat-append, AllZip, Option, Result, Ok, Err, OnOk, Appends, Appends-nil, Appends-trans, WritesFront, WritesTold, WritesGoal, WritesGoals, World, IsGoalTold, IsGoalLineOf, HasTooLong, IsTooLong, Named, RepliesToGoals, Goal, goal_cmp, lists, no_goals, goal_too_long, refusal}
use Rattle.std.specs.FinMap as finite
use Rattle.ghc_term.specs.declared.fault.Fault.TheVariants as fault
use Rattle.ghc_term.specs.declared.limit.Limit.TheVariants as limit
use Rattle.ghc_console.proofs.ListedLines.{line_alone}
use Rattle.ghc_console.proofs.RunLines.{cut_in}

one_more : {A B : Type 0} (R : A → B → Type 0) (xs : List A) (ys : List B) (x : A) (y : B) → AllZip R xs ys → R x y → AllZip R (xs ++ x ∷ []) (ys ++ y ∷ [])
one_more R [] [] x y a r = (r, tt)
one_more R [] (v ∷ ys) x y a r = absurd a
one_more R (u ∷ xs) [] x y a r = absurd a
one_more R (u ∷ xs) (v ∷ ys) x y a r = (a.0, one_more R xs ys x y a.1 r)

-- the goals in front of those left were told
pub record Telling (w : World) (all left : List Named) (old now : Option (List ℕ)) : Type 0 where
  pub done : List Named
  pub told : List (List ℕ)
  pub whole : all ≡ done ++ left
  pub each_told : AllZip (IsGoalTold w) done told
  pub appended : Appends old now (concat told)

-- memory was refused for each of these
abbrev starved : List Named → List (List ℕ)
starved [] = []
starved (goal ∷ goals) = refusal fault.Memory ∷ starved goals

starving : (w : World) (goals : List Named) → AllZip (IsGoalTold w) goals (starved goals)
starving w [] = tt
starving w (goal ∷ goals) = (inr refl, starving w goals)

module _ (w : World) where
  pub telling_start : (goals : List Named) (now : Option (List ℕ)) → Telling w goals goals now now
  telling_start goals now = record { done = []; told = []; whole = refl; each_told = tt; appended = Appends-nil now }

  joined : (xs ys : List Named) (ts us : List (List ℕ)) → AllZip (IsGoalTold w) xs ts → AllZip (IsGoalTold w) ys us → AllZip (IsGoalTold w) (xs ++ ys) (ts ++ us)
  joined [] ys [] us a b = b
  joined [] ys (t ∷ ts) us a b = absurd a
  joined (x ∷ xs) ys [] us a b = absurd a
  joined (x ∷ xs) ys (t ∷ ts) us a b = (a.0, joined xs ys ts us a.1 b)

  module _ (all : List Named) (goal : Named) (rest : List Named) (a b c : Option (List ℕ)) (text : List ℕ) (g : Telling w all (goal ∷ rest) a b) (told : IsGoalTold w goal text) where
    -- one goal on
    pub telling_on : Appends b c text → Telling w all rest a c
    telling_on wrote = record {
      done = g.done ++ goal ∷ [];
      told = g.told ++ text ∷ [];
      whole = g.whole ∙ sym (append_assoc g.done (goal ∷ []) rest);
      each_told = one_more (IsGoalTold w) g.done g.told goal text g.each_told told;
      appended = subst (Appends a c) (sym (concat-append g.told (text ∷ []) ∙ ap (λ l. concat g.told ++ l) (append-nil text))) (Appends-trans a b c (concat g.told) text g.appended wrote);
    }

    -- a call failed in it
    pub telling_broken : (n : ℕ) → Appends b c (take n text) → (lines : List (List ℕ)) × AllZip (IsGoalTold w) all lines × ((m : ℕ) × Appends a c (take m (concat lines)))
    telling_broken n wrote =
        let front = concat g.told in
        let lines = g.told ++ text ∷ starved rest in
        let cut : take (length (front ++ take n text)) (concat lines) ≡ front ++ take n text =
        ap (take (length (front ++ take n text))) (concat-append g.told (text ∷ starved rest)) ∙ cut_in front text (concat (starved rest)) n in (
          lines,
          subst (λ gs. AllZip (IsGoalTold w) gs lines) (sym g.whole) (joined g.done (goal ∷ rest) g.told (text ∷ starved rest) g.each_told (told, starving w rest)),
          (length (front ++ take n text), subst (Appends a c) (sym cut) (Appends-trans a b c front (take n text) g.appended wrote)),
        )

  -- all were told
  pub telling_end : (all left : List Named) (a b : Option (List ℕ)) → left ≡ [] → Telling w all left a b → (lines : List (List ℕ)) × AllZip (IsGoalTold w) all lines × Appends a b (concat lines)
  telling_end all left a b none g = (
    g.told,
    subst (λ gs. AllZip (IsGoalTold w) gs g.told) (sym (g.whole ∙ ap (λ l. g.done ++ l) none ∙ append-nil g.done)) g.each_told,
    g.appended,
  )

  -- The line of a goal was written, or F1 in its place.
  pub goal_wrote : {E F : Type 0} (made : Result Unit F) (goal : Named) (line : List ℕ) (a b : Option (List ℕ)) (result : Result Unit E) → OnOk made (IsGoalLineOf w goal.0 goal.1 line) → OnOk made (¬ IsTooLong w.state.store goal.1)
      → ((bytes : List ℕ) → OnOk made (line ≡ bytes) → WritesTold (bytes ∷ []) a b result) → WritesGoal w goal a b result
  goal_wrote (Ok t) goal line a b result told short wrote =
      let written = wrote line refl in (
        written.0,
        elim (line_alone line written.0 written.1) [
          | inl e ↦ inl (subst (IsGoalLineOf w goal.0 goal.1) (sym e) told, short)
          | inr m ↦ inr m
        ],
        written.2,
      )
  goal_wrote (Err f) goal line a b result told short wrote =
      let written = wrote (refusal fault.Memory) tt in
      (written.0, elim (line_alone (refusal fault.Memory) written.0 written.1) [ inl e ↦ inr e | inr m ↦ inr m ], written.2)

  -- The refusal was written because one goal is too long, or F1 in its place.
  pub too_long_wrote : {E : Type 0} (a b : Option (List ℕ)) (result : Result Unit E) → HasTooLong w.state.goals w.state.store → WritesTold (refusal (fault.Limit limit.Print) ∷ []) a b result
      → (text : List ℕ) × (RepliesToGoals w text ⊎ (text ≡ refusal fault.Memory)) × WritesFront a b result text
  too_long_wrote a b result long written = (
    written.0,
    elim (line_alone (refusal (fault.Limit limit.Print)) written.0 written.1) [
      | inl e ↦ inl (subst (RepliesToGoals w) (sym e) (goal_too_long long))
      | inr m ↦ inr m
    ],
    written.2,
  )

  -- There is no goal, so `none` was written.
  pub no_goal_wrote : {E : Type 0} (goals : List Named) (a b : Option (List ℕ)) (result : Result Unit E) → goals ≡ finite.entries w.state.goals → length goals ≡ 0 → WritesFront a b result (codes "none\n")
      → (text : List ℕ) × (RepliesToGoals w text ⊎ (text ≡ refusal fault.Memory)) × WritesFront a b result text
  no_goal_wrote goals a b result all none wrote =
      (codes "none\n", inl (no_goals (finite.empty_of_len w.state.goals (finite.len-entries w.state.goals ∙ ap length (sym all) ∙ none))), wrote)

  -- All goals were written.
  pub goals_wrote : {E : Type 0} (goals : List Named) (a b : Option (List ℕ)) (result : Result Unit E) → goals ≡ finite.entries w.state.goals → length goals ≢ 0 → WritesGoals w goals a b result
      → (text : List ℕ) × (RepliesToGoals w text ⊎ (text ≡ refusal fault.Memory)) × WritesFront a b result text
  goals_wrote goals a b result all some written = (
    concat written.0,
    inl (lists (λ none. some (ap length all ∙ sym (finite.len-entries w.state.goals) ∙ ap finite.len none ∙ finite.len-empty goal_cmp Goal)) (written.0, subst (λ gs. AllZip (IsGoalTold w) gs written.0) all written.1, refl)),
    written.2,
  )
