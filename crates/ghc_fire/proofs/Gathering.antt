-- Entries of a map that are put into another, one after another.
use Rattle.ghc_fire.proofs.Words.{◌≡◌, Bool, true, false, cond, ◌||◌, List, [], ◌∷◌, ◌++◌, map, refl, sym, ap, subst, ◌∙◌, Option, Some, None, option_map, is_some, Ordering, list_any, IsStrictlySortedBy, keys_of, eq_by_cmp, is_eq, IsTotalOrder, IsAntisymmetric, tells_apart, lookup-map_values, keys_of-map_values, or-true, or-false, list_any-append, arith}
use Rattle.std.specs.FinMap as finite
use Rattle.ghc_fire.proofs.Ordered.{value_in, inserted, entries_are}

pub either : {V X : Type 0} (shows : V → X) (b : Bool) (v : V) (o : Option V) → option_map shows (cond b (Some v) o) ≡ cond b (Some (shows v)) (option_map shows o)
either shows true v o = refl
either shows false v o = refl

nothing : {X : Type 0} (a b : Bool) (o : Option X) → o ≡ None → cond a o None ≡ cond b o None
nothing a b o e = grind arith

where_some : {X : Type 0} (o : Option X) → cond (is_some o) o None ≡ o
where_some None = refl
where_some (Some x) = refl

-- the entries with their values shown
abbrev pub shown_by : {K V X : Type 0} → (V → X) → List (K × V) → List (K × X)
shown_by shows es = map (λ e. (e.0, shows e.1)) es

module _ {K V X : Type 0} {R : K → K → Ordering} (o : IsTotalOrder R) (alike : IsAntisymmetric R) (shows : V → X) where
  abbrev shown : List (K × V) → List (K × X)
  shown es = shown_by shows es

  pub one_put : (es new : List (K × V)) (k : K) (v : V) → ((q : K) → value_in R q new ≡ cond (is_eq (R k q)) (Some v) (value_in R q es))
      → finite.from_entries {R = R} (shown new) ≡ finite.insert (finite.from_entries (shown es)) k (shows v)
  one_put es new k v h = inserted o alike (shown es) (shown new) k (shows v) (λ q.
      lookup-map_values shows (λ n. is_eq (R q n)) new ∙ ap (option_map shows) (h q) ∙ either shows (is_eq (R k q)) v (value_in R q es)
      ∙ ap (cond (is_eq (R k q)) (Some (shows v))) (sym (lookup-map_values shows (λ n. is_eq (R q n)) es)))

  -- what is gathered of a map: of each key that was met what the map has there
  abbrev pub IsGathered : finite.FinMap R X → List K → List (K × V) → Type 0
  IsGathered whole met es = (q : K) → finite.get (finite.from_entries {R = R} (shown es)) q ≡ cond (list_any (eq_by_cmp R q) met) (finite.get whole q) None

  pub none_met : (whole : finite.FinMap R X) (es : List (K × V)) → es ≡ [] → IsGathered whole [] es
  none_met whole es e q = ap (λ l. finite.get (finite.from_entries {R = R} (shown l)) q) e ∙ finite.get-empty R q

  any_push : (p : K → Bool) (ks : List K) (k : K) → list_any p (ks ++ k ∷ []) ≡ (list_any p ks || p k)
  any_push p ks k = list_any-append p ks (k ∷ []) ∙ ap (λ b. list_any p ks || b) (or-false (p k))

  module _ (whole : finite.FinMap R X) (met : List K) (es : List (K × V)) (h : IsGathered whole met es) (k : K) where
    -- one more is met, which the map has
    pub one_more : (new : List (K × V)) (v : V) → finite.get whole k ≡ Some (shows v) → ((q : K) → value_in R q new ≡ cond (is_eq (R k q)) (Some v) (value_in R q es)) → IsGathered whole (met ++ k ∷ []) new
    one_more new v there put q =
        ap (λ m. finite.get m q) (one_put es new k v put) ∙ finite.get-insert o (finite.from_entries (shown es)) k (shows v) q
        ∙ elim (eq_by_cmp R q k) as (λ b. eq_by_cmp R q k ≡ b → cond b (Some (shows v)) (finite.get (finite.from_entries {R = R} (shown es)) q) ≡ cond (list_any (eq_by_cmp R q) met || b) (finite.get whole q) None) [
          | true ↦ λ e. sym there ∙ ap (finite.get whole) (sym (tells_apart alike q k e)) ∙ sym (ap (λ b. cond b (finite.get whole q) None) (or-true (list_any (eq_by_cmp R q) met)))
          | false ↦ λ e. h q ∙ ap (λ b. cond b (finite.get whole q) None) (sym (or-false (list_any (eq_by_cmp R q) met)))
        ] refl ∙ ap (λ b. cond b (finite.get whole q) None) (sym (any_push (eq_by_cmp R q) met k))

    -- one more is met, which the map has not
    pub none_more : finite.get whole k ≡ None → IsGathered whole (met ++ k ∷ []) es
    none_more none q =
        h q ∙ elim (eq_by_cmp R q k) as (λ b. eq_by_cmp R q k ≡ b → cond (list_any (eq_by_cmp R q) met) (finite.get whole q) None ≡ cond (list_any (eq_by_cmp R q) met || b) (finite.get whole q) None) [
          | true ↦ λ e. let gone = ap (finite.get whole) (tells_apart alike q k e) ∙ none in nothing (list_any (eq_by_cmp R q) met) (list_any (eq_by_cmp R q) met || true) (finite.get whole q) gone
          | false ↦ λ e. ap (λ b. cond b (finite.get whole q) None) (sym (or-false (list_any (eq_by_cmp R q) met)))
        ] refl ∙ ap (λ b. cond b (finite.get whole q) None) (sym (any_push (eq_by_cmp R q) met k))

  -- all keys are met
  pub gathered : (whole : finite.FinMap R X) (met : List K) (es : List (K × V)) → IsGathered whole met es → ((q : K) → list_any (eq_by_cmp R q) met ≡ finite.contains_key whole q) → IsStrictlySortedBy R (keys_of es)
      → shown es ≡ finite.entries whole
  gathered whole met es h all order =
      let same = finite.same_map o alike (finite.from_entries {R = R} (shown es)) whole (λ q. h q ∙ ap (λ b. cond b (finite.get whole q) None) (all q) ∙ where_some (finite.get whole q)) in
      sym (entries_are o alike (shown es) (subst (IsStrictlySortedBy R) (sym (keys_of-map_values shows es)) order)) ∙ ap finite.entries same
