-- The steps that bound the variables of a chain, one variable after another.
use Rattle.ghc_trace.proofs.Words.{◌≡◌, ℕ, ◌+◌, ◌≤◌, List, [], ◌∷◌, ◌++◌, length, map, drop, refl, sym, ap, ◌∙◌, subst, inl, inr, append_assoc, append-nil, drop_of_length-le, Option, Some, None, is_some, IsTrue, option_or, map-append, VarName, In, name_cmp, Tree, value_at, Program, State, Record, after, Runs, query_state, bound_at, Binds, World, IsReplay, Binder, Bound, no_more, free, bound, binder_of}
use Rattle.std.specs.FinMap as finite

not_bound : (o : Option Tree) → ¬ IsTrue (is_some o) → o ≡ None
not_bound None h = refl
not_bound (Some t) h = absurd (h refl)

-- what no step of a run binds stays unbound
stays_unbound : (P : Program) (s : State) (rs : List Record) (t : State) (x : VarName) → Runs P s rs t → value_at s.store x ≡ None → ((r : Record) → In r rs → ¬ Binds r x) → value_at t.store x ≡ None
stays_unbound P s [] t x run none never = subst (λ (u : State). value_at u.store x ≡ None) (sym run) none
stays_unbound P s (r ∷ rs) t x run none never =
    let later : value_at (after s r).store x ≡ None =
    bound_at r.effect.binds s.store x ∙ ap (λ o. option_or o (value_at s.store x)) (not_bound (value_at r.effect.binds x) (never r (inl refl))) ∙ none in
    stays_unbound P (after s r) rs t x run.1 later (λ q i. never q (inr i))

-- what no kept step bound is unbound
pub unbound : (w : World) (x : VarName) → IsReplay w w.kept w.state → ((r : Record) → In r w.kept → ¬ Binds r x) → value_at w.state.store x ≡ None
unbound w x replay never = stays_unbound w.opening.program (query_state w.opening.query) w.kept w.state x replay.1 (finite.get-empty name_cmp x) never

-- the first i variables are paired so that what pairs the rest pairs all
pub record Paired (w : World) (xs : List VarName) (i : ℕ) (items : List Binder) : Type 0 where
  pub done : List (VarName × ℕ)
  pub told : items ≡ map binder_of done
  pub goes_on : (pairs : List (VarName × ℕ)) → Bound w (drop i xs) pairs → Bound w xs (done ++ pairs)

module _ (w : World) (xs : List VarName) where
  -- at first there is none
  pub begin : (items : List Binder) → items ≡ [] → Paired w xs 0 items
  begin items e = record { done = []; told = e; goes_on = λ pairs b. b }

  module _ (i : ℕ) (items : List Binder) (p : Paired w xs i items) where
    -- at the end all are paired
    pub finished : length xs ≤ i → (pairs : List (VarName × ℕ)) × Bound w xs pairs × (items ≡ map binder_of pairs)
    finished h = (
      p.done,
      subst (Bound w xs) (append-nil p.done) (p.goes_on [] (subst (λ l. Bound w l []) (sym (drop_of_length-le xs h)) no_more)),
      p.told,
    )

    module _ (x : VarName) (at : drop i xs ≡ x ∷ drop (i + 1) xs) where
      -- the next one was bound by a step
      pub paired : (n : ℕ) (new : List Binder) → ((r : Record) × In r w.kept × Binds r x × (r.number ≡ n)) → new ≡ items ++ record { variable = x; step = n } ∷ [] → Paired w xs (i + 1) new
      paired n new h e = record {
        done = p.done ++ (x, n) ∷ [];
        told = e ∙ ap (λ l. l ++ record { variable = x; step = n } ∷ []) p.told ∙ sym (map-append binder_of p.done ((x, n) ∷ []));
        goes_on = λ pairs b.
            let first : Bound w (x ∷ drop (i + 1) xs) ((x, n) ∷ pairs) = subst (λ m. Bound w (x ∷ drop (i + 1) xs) ((x, m) ∷ pairs)) h.3 (bound h.0 h.1 h.2 b) in
            subst (Bound w xs) (sym (append_assoc p.done ((x, n) ∷ []) pairs)) (p.goes_on ((x, n) ∷ pairs) (subst (λ l. Bound w l ((x, n) ∷ pairs)) (sym at) first));
      }

      -- the next one is unbound
      pub passed : value_at w.state.store x ≡ None → Paired w xs (i + 1) items
      passed none = record { done = p.done; told = p.told; goes_on = λ pairs b. p.goes_on pairs (subst (λ l. Bound w l pairs) (sym at) (free none b)) }
