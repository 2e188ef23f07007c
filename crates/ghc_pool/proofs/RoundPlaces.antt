-- Each place of a round's passes is that of a step which stands in the history.
use Rattle.ghc_pool.proofs.Words.{◌≡◌, ◌≢◌, ◌⊎◌, ℕ, zero, suc, ◌+◌, ◌==◌, ◌<◌, ◌≤◌, List, [], ◌∷◌, ◌++◌, length, Bool, true, false, cond, refl, sym, ap, ◌∙◌, subst, inl, inr, arith, eq-eqb, ne_eqb, length-append, All, All-head, All-tail, GoalName, Item, Proposal, Reply, Known, newcomers, weight, numbers_from, weight_of_places, Spies, Answer, Submitted, Noted, Starved, Scope, Taken, submits_in, Work, submits, total_work, submits_by, AreTold, IsInScope, StandsIn, IsUnspiedStep, IsAnswerOf, AreAnswers, places_if, places_in, step_places, IsPassAfter}
use mathlib.Core.Logic.{dite}
use mathlib.Core.List.{IsPrefix}
use native.Mathlib.Decide.{ℕ_discrete}
use base.Stored.{Gv}
use Rattle.ghc_shared.specs.declared.receipt.Receipt as given
use Rattle.ghc_pool.proofs.Telling.{stands_later, prefix_chain}

-- 1 for this number, and 0 for any other
abbrev mark : ℕ → ℕ → ℕ
mark k x = cond (x == k) 1 0

mark_same : (k x : ℕ) → x ≡ k → mark k x ≡ 1
mark_same k x e = ap (λ t. cond t 1 0) (eq-eqb x k e)

mark_other : (k x : ℕ) → x ≢ k → mark k x ≡ 0
mark_other k x ne = ap (λ t. cond t 1 0) (ne_eqb x k ne)

marked : (k x : ℕ) → 0 < mark k x → x ≡ k
marked k x some = dite (ℕ_discrete x k) (λ e. e) (λ ne. absurd (omega (arith, some, mark_other k x ne)))

-- a number is among those from the first on
marked_number : (k first n : ℕ) → first ≤ k → k < first + n → 0 < weight (mark k) (numbers_from first n)
marked_number k first zero low high = absurd (omega (arith, low, high))
marked_number k first (suc n) low high = dite (ℕ_discrete first k)
    (λ e. omega (arith, mark_same k first e))
    (λ ne. omega (arith, marked_number k (suc first) n (omega (arith, low, ne)) (omega (arith, high))))

weight_append : (h : ℕ → ℕ) (xs ys : List ℕ) → weight h (xs ++ ys) ≡ weight h xs + weight h ys
weight_append h [] ys = omega arith
weight_append h (x ∷ xs) ys = omega (arith, weight_append h xs ys)

positive_either : (a b : ℕ) → 0 < a + b → (0 < a) ⊎ (0 < b)
positive_either zero b h = inr (omega (arith, h))
positive_either (suc a) b h = inl (omega arith)

-- Each pass has seen this history, and made nothing.
abbrev pub AreNewcomers : List Item → List (Known Item) → Type 0
AreNewcomers items [] = Unit {0}
AreNewcomers items (p ∷ ps) = (p.front ≡ items) × (p.places ≡ []) × AreNewcomers items ps

newcomers_more : (items : List Item) (ps : List (Known Item)) (p : Known Item) → AreNewcomers items ps → p.front ≡ items → p.places ≡ [] → AreNewcomers items (ps ++ p ∷ [])
newcomers_more items [] p all front places = (front, places, tt)
newcomers_more items (q ∷ ps) p all front places = (all.0, all.1, newcomers_more items ps p all.2 front places)

pub are_newcomers : (items : List Item) (n : ℕ) → AreNewcomers items (newcomers items n)
are_newcomers items zero = tt
are_newcomers items (suc n) = newcomers_more items (newcomers items n) record { number = n; front = items; places = []; submits = 0 } (are_newcomers items n) refl refl

pub newcomers_length : (items : List Item) (n : ℕ) → length (newcomers items n) ≡ n
newcomers_length items zero = refl
newcomers_length items (suc n) = omega (arith, newcomers_length items n, length-append (newcomers items n) (record { number = n; front = items; places = []; submits = 0 } ∷ []))

-- A step that a round of this scope took stands at this place of the items.
pub record IsTakenAt (opened : Gv) (scope : Scope) (spies : Spies) (items : List Item) (place : ℕ) : Type 0 where
  pub goal : GoalName
  pub proposal : Proposal
  pub receipt : given.Receipt Reply
  pub inside : IsInScope scope goal
  pub unspied : IsUnspiedStep opened spies goal proposal
  pub stands : StandsIn items proposal receipt
  pub here : receipt.place ≡ place

module _ (opened : Gv) (scope : Scope) (spies : Spies) where
  taken_later : (items longer : List Item) (place : ℕ) → IsPrefix items longer → IsTakenAt opened scope spies items place → IsTakenAt opened scope spies longer place
  taken_later items longer place more t = record {
    goal = t.goal;
    proposal = t.proposal;
    receipt = t.receipt;
    inside = t.inside;
    unspied = t.unspied;
    stands = stands_later items longer t.proposal t.receipt more t.stands;
    here = t.here;
  }

  module _ (base front : List Item) (place : ℕ) where
    by_answer : (g : GoalName) (a : Answer) → IsAnswerOf opened scope spies true base front g a → 0 < weight (mark place) (places_in a) → IsTakenAt opened scope spies front place
    by_answer g (Submitted r) is some = accepted r.accepted refl some
      where
        accepted : (b : Bool) → r.accepted ≡ b → 0 < weight (mark place) (places_if b r.place) → IsTakenAt opened scope spies front place
        accepted true told some = record {
          goal = g;
          proposal = is.0;
          receipt = r;
          inside = is.1;
          unspied = is.2;
          stands = is.5 told;
          here = marked place r.place (omega (arith, some));
        }
        accepted false not some = absurd (omega (arith, some))
    by_answer g (Noted r) is some = absurd (omega (arith, some))
    by_answer g Starved is some = absurd (omega (arith, some))

    by_answers : (taken : List Taken) → AreAnswers opened scope spies true base front taken → 0 < weight (mark place) (step_places taken) → IsTakenAt opened scope spies front place
    by_answers [] all some = absurd (omega (arith, some))
    by_answers (x ∷ taken) all some =
        elim (positive_either (weight (mark place) (places_in x.1)) (weight (mark place) (step_places taken)) (omega (arith, some, weight_append (mark place) (places_in x.1) (step_places taken)))) [
          | inl first ↦ by_answer x.0 x.1 all.0 first
          | inr later ↦ by_answers taken all.1 later
        ]

  module _ (start whole : List Item) where
    -- a place of one of the passes
    pub by_passes : (place : ℕ) (starts : List (Known Item)) (ks : List Work) (nows : List (Known Item)) → AreTold (IsPassAfter opened scope spies true) starts ks nows → AreNewcomers start starts
        → All (λ p. IsPrefix p.front whole) nows → 0 < weight_of_places (mark place) nows → IsTakenAt opened scope spies whole place
    by_passes place [] [] [] told new begins some = absurd (omega (arith, some))
    by_passes place [] [] (p ∷ ps) told new begins some = absurd told
    by_passes place [] (k ∷ ks) ps told new begins some = absurd told
    by_passes place (s ∷ ss) [] ps told new begins some = absurd told
    by_passes place (s ∷ ss) (k ∷ ks) [] told new begins some = absurd told
    by_passes place (s ∷ ss) (k ∷ ks) (p ∷ ps) told new begins some =
        let places : p.places ≡ step_places k.taken.items = told.0.places ∙ ap (λ (l : List ℕ). l ++ step_places k.taken.items) new.1 in
        elim (positive_either (weight (mark place) p.places) (weight_of_places (mark place) ps) some) [
          | inl first ↦ taken_later p.front whole place (All-head (λ (q : Known Item). IsPrefix q.front whole) p ps begins)
              (by_answers s.front p.front place k.taken.items told.0.answers (subst (λ (l : List ℕ). 0 < weight (mark place) l) places first))
          | inr later ↦ by_passes place ss ks ps told.1 new.2 (All-tail (λ (q : Known Item). IsPrefix q.front whole) p ps begins) later
        ]

    -- what the passes had seen begins the history
    pub start_begins : (starts : List (Known Item)) (ks : List Work) (nows : List (Known Item)) → AreTold (IsPassAfter opened scope spies true) starts ks nows → AreNewcomers start starts
        → All (λ p. IsPrefix p.front whole) nows → 0 < length starts → IsPrefix start whole
    start_begins [] ks nows told new begins some = absurd (omega (arith, some))
    start_begins (s ∷ ss) [] ps told new begins some = absurd told
    start_begins (s ∷ ss) (k ∷ ks) [] told new begins some = absurd told
    start_begins (s ∷ ss) (k ∷ ks) (p ∷ ps) told new begins some =
        prefix_chain start p.front whole (subst (λ (l : List Item). IsPrefix l p.front) new.0 told.0.begins) (All-head (λ (q : Known Item). IsPrefix q.front whole) p ps begins)

    -- the passes have no more places than steps were submitted
    pub few_places : (starts : List (Known Item)) (ks : List Work) (nows : List (Known Item)) → AreTold (IsPassAfter opened scope spies true) starts ks nows → AreNewcomers start starts
        → weight_of_places (λ _. 1) nows ≤ total_work submits_by ks
    few_places [] [] [] told new = omega arith
    few_places [] [] (p ∷ ps) told new = absurd told
    few_places [] (k ∷ ks) ps told new = absurd told
    few_places (s ∷ ss) [] ps told new = absurd told
    few_places (s ∷ ss) (k ∷ ks) [] told new = absurd told
    few_places (s ∷ ss) (k ∷ ks) (p ∷ ps) told new =
        let places : p.places ≡ step_places k.taken.items = told.0.places ∙ ap (λ (l : List ℕ). l ++ step_places k.taken.items) new.1 in
        omega (arith, ap (λ (l : List ℕ). weight (λ _. 1) l) places, few_steps k.taken.items, few_places ss ks ps told.1 new.2)
      where
        one_place : (a : Answer) → weight (λ _. 1) (places_in a) ≤ submits_in a
        one_place (Submitted r) = at_most r.accepted
          where
            at_most : (b : Bool) → weight (λ _. 1) (places_if b r.place) ≤ 1
            at_most true = omega arith
            at_most false = omega arith
        one_place (Noted r) = omega arith
        one_place Starved = omega arith

        few_steps : (taken : List Taken) → weight (λ _. 1) (step_places taken) ≤ submits taken
        few_steps [] = omega arith
        few_steps (x ∷ taken) = omega (arith, weight_append (λ _. 1) (places_in x.1) (step_places taken), one_place x.1, few_steps taken)

  -- at each place after the start stands a step that the round took
  pub by_place : (place first n : ℕ) (start whole : List Item) (starts : List (Known Item)) (ks : List Work) (nows : List (Known Item)) → AreTold (IsPassAfter opened scope spies true) starts ks nows → AreNewcomers start starts
      → All (λ p. IsPrefix p.front whole) nows → ((h : ℕ → ℕ) → weight_of_places h nows ≡ weight h (numbers_from first n)) → first ≤ place → place < first + n → IsTakenAt opened scope spies whole place
  by_place place first n start whole starts ks nows told new begins once low high = by_passes start whole place starts ks nows told new begins (subst (λ (t : ℕ). 0 < t) (sym (once (mark place))) (marked_number place first n low high))
