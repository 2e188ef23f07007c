-- Which goals are streams, and how they are counted.
use Rattle.ghc_reader.proofs.Words.{◌≡◌, ℕ, ◌+◌, List, [], ◌∷◌, ◌++◌, length, refl, sym, ap, ◌∙◌, subst, false, cond, inl, inr, slice_get, filter, append-nil, length_push, filter-append, Goal, is_stream, Names, SaysGoal, Each, AreCounted, Counts}
use Rattle.ghc_term.specs.Goal as goal
use Rattle.ghc_reader.specs.Source.{call, unify, assign}
use Rattle.ghc_reader.proofs.Names.{get_push}

-- The streams so far are counted.
pub record StreamsSoFar (count : ℕ) (us : List goal.Goal) : Type 0 where
  pub streams : AreCounted us
  pub count_is : count ≡ length (filter is_stream us)

streams_push : (us : List goal.Goal) (u : goal.Goal) → filter is_stream (us ++ u ∷ []) ≡ filter is_stream us ++ cond (is_stream u) (u ∷ []) []
streams_push us u = filter-append is_stream us (u ∷ [])

counted : (count later : ℕ) (us : List goal.Goal) (u : goal.Goal) → AreCounted us → count ≡ length (filter is_stream us) → Counts count u later → StreamsSoFar later (us ++ u ∷ [])
counted count later us u all is (inl none) =
    let same : filter is_stream (us ++ u ∷ []) ≡ filter is_stream us = streams_push us u ∙ ap (λ b. filter is_stream us ++ cond b (u ∷ []) []) none.0 ∙ append-nil (filter is_stream us) in
    record {
      streams = λ i k x e. all i k x (sym (ap (λ l. slice_get l i) same) ∙ e);
      count_is = none.1 ∙ is ∙ sym (ap length same);
    }
counted count later us u all is (inr next) =
    let same : filter is_stream (us ++ u ∷ []) ≡ filter is_stream us ++ u ∷ [] = streams_push us u ∙ ap (λ b. filter is_stream us ++ cond b (u ∷ []) []) (ap is_stream next.1) in
    record {
      streams = λ i k x e. elim (get_push (filter is_stream us) u i (goal.stream k x) (sym (ap (λ l. slice_get l i) same) ∙ e)) [
        | inl old ↦ all i k x old
        | inr new ↦ let number : goal.stream k x ≡ goal.stream (count + 1) next.0 = new.1 ∙ next.1 in
            let k_is : k ≡ count + 1 = cc in
            k_is ∙ ap (λ n. n + 1) (is ∙ sym new.0)
      ];
      count_is = next.2 ∙ ap (λ n. n + 1) is ∙ sym (ap length same ∙ length_push (filter is_stream us) u);
    }

-- one goal more
pub counted_more : (count later counts : ℕ) (us new now : List goal.Goal) (u : goal.Goal) → counts ≡ later → now ≡ new → new ≡ us ++ u ∷ [] → AreCounted us → count ≡ length (filter is_stream us) → Counts count u later → StreamsSoFar counts now
counted_more count later counts us new now u e f grown all is h =
    subst (λ n. StreamsSoFar n now) (sym e) (subst (StreamsSoFar later) (sym (f ∙ grown)) (counted count later us u all is h))

pub counted_same : (count counts : ℕ) (us now : List goal.Goal) → counts ≡ count → now ≡ us → AreCounted us → count ≡ length (filter is_stream us) → StreamsSoFar counts now
counted_same count counts us now e f all is = subst (λ n. StreamsSoFar n now) (sym e) (subst (StreamsSoFar count) (sym f) (record { streams = all; count_is = is }))

-- what a goal of a body says is no stream
pub no_stream : (g : Goal) (names : Names) (u : goal.Goal) → SaysGoal names g u → is_stream u ≡ false
no_stream (call c) names u h = ap is_stream h.1
no_stream (unify s t) names u h = ap is_stream h.2
no_stream (assign v e) names u h = ap is_stream h.2

pub no_streams : (gs : List Goal) (names : Names) (us : List goal.Goal) → Each (SaysGoal names) gs us → filter is_stream us ≡ []
no_streams [] names [] h = refl
no_streams (g ∷ gs) names (u ∷ us) h = ap (λ b. cond b (u ∷ filter is_stream us) (filter is_stream us)) (no_stream g names u h.0) ∙ no_streams gs names us h.1
no_streams gs names us h = absurd h
