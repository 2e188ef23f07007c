-- Goals are put there one after another, and taken away again.
use Rattle.ghc_records.proofs.Words.{◌≡◌, ℕ, ◌+◌, List, [], ◌∷◌, ◌++◌, length, ap, ◌∙◌, arith, GoalName, Goal, Goals, with_makes}
use Rattle.std.specs.FinMap as finite

-- the name that step n gives at the place i
abbrev pub name : ℕ → ℕ → GoalName
name n i = record { step = n; place = i }

-- the last goal of a list is put there first
pub last_first : (n i : ℕ) (gs : List Goal) (g : Goal) (m : Goals) → with_makes n i (gs ++ g ∷ []) m ≡ with_makes n i gs (finite.insert m (name n (i + length gs)) g)
last_first n i [] g m = let here : i ≡ i + 0 = omega arith in ap (λ j. finite.insert m (name n j) g) here
last_first n i (h ∷ gs) g m =
    let here : i + 1 + length gs ≡ i + length (h ∷ gs) = omega arith in
    ap (λ x. finite.insert x (name n i) h) (last_first n (i + 1) gs g m ∙ ap (λ j. with_makes n (i + 1) gs (finite.insert m (name n j) g)) here)
