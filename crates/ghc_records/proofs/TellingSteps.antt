-- Lemmas on lines that tell steps with numbers of their own, as they are read one by one.
use Rattle.ghc_records.proofs.Words.{◌≡◌, ℕ, ◌+◌, ◌<◌, ◌⊎◌, inl, inr, List, [], ◌∷◌, ◌++◌, map, refl, sym, ◌∙◌, subst, arith, Option, Some, None, IfSome, ◌↔◌, map-append, In, in_last, AreDistinct, Step, IsLineOf, SaysStep, TellsItems, TellsNext, TellsNoMore, TellsNoMoreItems, TellsSteps, pieces_of}
use Rattle.ghc_records.specs.inner.StepNumbers.{HaveOwnNumbers}
use Rattle.ghc_records.proofs.CutLemmas.{line_is}
use Rattle.ghc_records.proofs.NumberSets.{distinct_pushed, in_pushed}
use Rattle.ghc_records.proofs.Saying.{one_step_number}
use Rattle.ghc_records.proofs.SectionLemmas.{HasRead, SaysNext, no_more_read, nothing_read, one_more_read}

abbrev pub number_of : Step → ℕ
number_of s = s.number

last_is_new : (ks : List ℕ) (k : ℕ) → AreDistinct (ks ++ k ∷ []) → ¬ In k ks
last_is_new [] k d i = i
last_is_new (x ∷ ks) k d (inl e) = d.0 (subst (λ m. In m (ks ++ k ∷ [])) e (in_last ks k))
last_is_new (x ∷ ks) k d (inr i) = last_is_new ks k d.1 i

-- steps with numbers of their own, of each of which P holds
abbrev pub AreApart : (Step → Type 0) → List Step → Type 0
AreApart P steps = HaveOwnNumbers steps × ((s : Step) → In s steps → P s)

-- The keys are the numbers of the steps.
abbrev HaveNumbers : List ℕ → List Step → Type 0
HaveNumbers keys steps = (n : ℕ) → In n keys ↔ In n (map number_of steps)

-- the first of these pieces are lines that tell steps with numbers of their own, which are the keys
abbrev pub HasTold : List (List ℕ) → ℕ → List ℕ → List ℕ → List Step → Type 0
HasTold pieces index rest keys steps = HasRead SaysStep HaveOwnNumbers pieces index rest steps × HaveNumbers keys steps

-- the pieces tell no step more with a number of its own
abbrev pub TellsNoOther : List (List ℕ) → List Step → Type 0
TellsNoOther pieces steps = (s : Step) → ¬ TellsItems SaysStep HaveOwnNumbers pieces (steps ++ s ∷ [])

-- at the start the text has told nothing
pub nothing_told : (text keys : List ℕ) (steps : List Step) → keys ≡ [] → steps ≡ [] → HasTold (pieces_of text) 0 text keys steps
nothing_told text keys steps no_keys no_steps = (
  nothing_read SaysStep HaveOwnNumbers text steps no_steps tt,
  subst (HaveNumbers keys) (sym no_steps) (subst (λ l. HaveNumbers l []) (sym no_keys) (λ n. (λ i. i, λ i. i))),
)

module _ (pieces : List (List ℕ)) (index : ℕ) (rest keys : List ℕ) (steps : List Step) (has : HasTold pieces index rest keys steps) where
  wrong : ((line : List ℕ) (s : Step) → IsLineOf (pieces_of rest) 0 line → SaysStep line s → ¬ HaveOwnNumbers (steps ++ s ∷ [])) → TellsNoOther pieces steps
  wrong none = let (told, low, other) = no_more_read SaysStep HaveOwnNumbers pieces index rest steps has.0 (index + 1) (omega arith) none in other

  -- the number of the step that the line says is there already
  pub wrong_again : (s : Step) (behind : List ℕ) → SaysNext SaysStep HaveOwnNumbers rest s behind → In s.number keys → TellsNoOther pieces steps
  wrong_again s behind (line, is, says) i = wrong (λ other t stands other_says fit.
      let same = line_is (pieces_of rest) 0 rest line behind other refl is stands in
      let number = one_step_number line s t says (subst (λ l. SaysStep l t) same other_says) in
      let told = subst (λ n. In n (map number_of steps)) number ((has.1 s.number).0 i) in
      last_is_new (map number_of steps) t.number (subst AreDistinct (map-append number_of steps (t ∷ [])) fit) told)

  -- no line says a step
  pub wrong_line : ((line : List ℕ) (s : Step) → IsLineOf (pieces_of rest) 0 line → ¬ SaysStep line s) → TellsNoOther pieces steps
  wrong_line none = wrong (λ line s stands says fit. none line s stands says)

  -- one line more tells one step more
  pub one_more_put : (s : Step) (behind : List ℕ) (n : ℕ) (new_keys : List ℕ) (new_steps : List Step) → SaysNext SaysStep HaveOwnNumbers rest s behind → n ≡ s.number → ¬ In n keys → ((m : ℕ) → In m new_keys ↔ (In m keys ⊎ (m ≡ n)))
      → new_steps ≡ steps ++ s ∷ [] → HasTold pieces (index + 1) behind new_keys new_steps
  one_more_put s behind n new_keys new_steps says is new put pushed =
      let unused = λ (i : In s.number (map number_of steps)). new ((has.1 n).1 (subst (λ m. In m (map number_of steps)) (sym is) i)) in
      let fit : HaveOwnNumbers (steps ++ s ∷ []) =
      subst AreDistinct (sym (map-append number_of steps (s ∷ []))) (distinct_pushed (map number_of steps) s.number has.0.told.fit unused) in (
        subst (HasRead SaysStep HaveOwnNumbers pieces (index + 1) behind) (sym pushed)
            (one_more_read SaysStep HaveOwnNumbers pieces index rest steps has.0 s behind says fit),
        subst (HaveNumbers new_keys) (sym pushed) (λ m. subst (λ l. In m new_keys ↔ In m l) (sym (map-append number_of steps (s ∷ []))) (
          λ i. (in_pushed (map number_of steps) s.number m).1 (elim ((put m).0 i) [ inl j ↦ inl ((has.1 m).0 j) | inr e ↦ inr (e ∙ is) ]),
          λ i. (put m).1 (elim ((in_pushed (map number_of steps) s.number m).0 i) [ inl j ↦ inl ((has.1 m).1 j) | inr e ↦ inr (e ∙ sym is) ]),
        )),
      )

-- ---- below the next step

abbrev pub IsUnder : ℕ → Step → Type 0
IsUnder next s = s.number < next

-- .. as the end of a history tells it
abbrev pub IsBelow : List (List ℕ) → ℕ → Step → Type 0
IsBelow pieces count s = (next : ℕ) → TellsNext pieces count next → s.number < next

module _ (pieces : List (List ℕ)) (count : ℕ) where
  pub as_items : (steps : List Step) → TellsSteps pieces count steps → TellsItems SaysStep (AreApart (IsBelow pieces count)) pieces steps
  as_items steps told = record { each = told.each; fit = (told.distinct, λ s i next ends. told.below next s ends i) }

  pub as_steps : (steps : List Step) → TellsItems SaysStep (AreApart (IsBelow pieces count)) pieces steps → TellsSteps pieces count steps
  as_steps steps told = record { each = told.each; distinct = told.fit.0; below = λ next s ends i. told.fit.1 s i next ends }

  pub no_more_steps : (steps : List Step) → TellsNoMoreItems SaysStep (AreApart (IsBelow pieces count)) pieces count steps → TellsNoMore pieces count steps
  no_more_steps steps h = (as_steps steps h.0, h.1, λ s told. h.2 s (as_items (steps ++ s ∷ []) told))

  -- the bound is what the end tells
  module _ (bound : Option ℕ) (ends : (next : ℕ) → (bound ≡ Some next) ↔ TellsNext pieces count next) (s : Step) where
    pub below : IfSome bound (λ next. s.number < next) → IsBelow pieces count s
    below low next end = subst (λ b. IfSome b (λ n. s.number < n)) ((ends next).1 end) low

    pub bounded : IsBelow pieces count s → IfSome bound (λ next. s.number < next)
    bounded low = elim bound as (λ b. bound ≡ b → IfSome b (λ next. s.number < next)) [ None ↦ λ e. tt | Some next ↦ λ e. low next ((ends next).0 e) ] refl
