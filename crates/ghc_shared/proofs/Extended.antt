-- Logs that get longer.
use Rattle.ghc_shared.proofs.Words.{◌⊎◌, inl, inr, ⊎_elim, ◌≡◌, ℕ, zero, suc, ◌+◌, ◌==◌, ◌≤◌, List, [], ◌∷◌, ◌++◌, length, map, drop, Bool, true, false, refl, sym, ap, ◌∙◌, subst, append-nil, arith, eq-eqb, ne_eqb, length-append, MatchBool, items_of, opening_log, extended, AllBy, ArePlacesBy}
use mathlib.Core.List.{IsPrefix}

at_match : (b c : Bool) (X Y : Type 0) → b ≡ c → MatchBool b X Y → MatchBool c X Y
at_match b c X Y e h = subst (λ (d : Bool). MatchBool d X Y) e h

module _ {A : Type 0} where
  abbrev tail_of : List A → List A
  tail_of [] = []
  tail_of (x ∷ xs) = xs

  abbrev head_or : A → List A → A
  head_or d [] = d
  head_or d (x ∷ xs) = x

  -- of two beginnings of one list one begins the other
  pub one_first : (a b log : List A) → IsPrefix a log → IsPrefix b log → IsPrefix a b ⊎ IsPrefix b a
  one_first [] b log p q = inl (b, refl)
  one_first (x ∷ a) [] log p q = inr (x ∷ a, refl)
  one_first (x ∷ a) (y ∷ b) [] p q = absurd (cc)
  one_first (x ∷ a) (y ∷ b) (z ∷ log) p q =
      let same : x ≡ y = ap (head_or x) p.1 ∙ sym (ap (head_or x) q.1) in
      ⊎_elim
      (λ (r : IsPrefix a b). inl (r.0, λ i. same i ∷ r.1 i))
      (λ (r : IsPrefix b a). inr (r.0, λ i. sym same i ∷ r.1 i))
      (one_first a b log (p.0, ap tail_of p.1) (q.0, ap tail_of q.1))

module _ {E : Type 0} where
  pub items_append : (a b : List (ℕ × E)) → items_of (a ++ b) ≡ items_of a ++ items_of b
  items_append [] b = refl
  items_append (x ∷ a) b = ap (λ (l : List E). x.1 ∷ l) (items_append a b)

  pub length-items_of : (a : List (ℕ × E)) → length (items_of a) ≡ length a
  length-items_of [] = refl
  length-items_of (x ∷ a) = ap suc (length-items_of a)

  pub prefix_items : (a b : List (ℕ × E)) → IsPrefix a b → IsPrefix (items_of a) (items_of b)
  prefix_items a b p = (items_of p.0, sym (items_append a p.0) ∙ ap (λ (l : List (ℕ × E)). items_of l) p.1)

  drop_items : (log : List (ℕ × E)) (more : List E) → drop (length log) (items_of log ++ more) ≡ more
  drop_items [] more = refl
  drop_items (x ∷ log) more = drop_items log more

  length-made : (by : ℕ) (es : List E) → length {A = ℕ × E} (map (λ (e : E). (by, e)) es) ≡ length es
  length-made by [] = refl
  length-made by (e ∷ es) = ap suc (length-made by es)

  -- what the history has beyond the log follows it
  pub extended_more : (log : List (ℕ × E)) (by : ℕ) (history more : List E) → items_of log ≡ history → extended log by (history ++ more) ≡ log ++ map (λ e. (by, e)) more
  extended_more log by history more is = ap (λ (l : List E). log ++ map (λ e. (by, e)) l) (subst (λ (j : List E). drop (length log) (j ++ more) ≡ more) is (drop_items log more))

  pub extended_same : (log : List (ℕ × E)) (by : ℕ) (history : List E) → items_of log ≡ history → extended log by history ≡ log
  extended_same log by history is = ap (λ (j : List E). extended log by j) (sym (append-nil history)) ∙ extended_more log by history [] is ∙ append-nil log

  pub length-extended : (log : List (ℕ × E)) (by : ℕ) (history history' more : List E) → items_of log ≡ history → history' ≡ history ++ more → length (extended log by history') ≡ length history'
  length-extended log by history history' more is grew =
      ap (λ (j : List E). length (extended log by j)) grew ∙ ap (λ (l : List (ℕ × E)). length l) (extended_more log by history more is) ∙ length-append log (map (λ e. (by, e)) more)
      ∙ ap (λ n. n + length {A = ℕ × E} (map (λ e. (by, e)) more)) (sym (length-items_of log) ∙ ap (λ (l : List E). length l) is) ∙ ap (λ n. length history + n) (length-made by more) ∙ sym (length-append history more) ∙ ap (λ (l : List E). length l) (sym grew)

  pub drop_more : (k : ℕ) (a b : List (ℕ × E)) → k ≤ length a → drop k (a ++ b) ≡ drop k a ++ b
  drop_more zero a b h = refl
  drop_more (suc k) [] b h = absurd (omega arith)
  drop_more (suc k) (x ∷ a) b h = drop_more k a b (omega arith)

  pub drop_all : (k : ℕ) (l : List (ℕ × E)) → k ≡ length l → drop k l ≡ []
  drop_all zero [] e = refl
  drop_all zero (x ∷ l) e = absurd (omega (arith, e))
  drop_all (suc k) [] e = refl
  drop_all (suc k) (x ∷ l) e = drop_all k l (omega (arith, e))

  -- places of items stay places of items
  places_more : (by k : ℕ) (log more : List (ℕ × E)) (places : List ℕ) → ArePlacesBy by k log places → ArePlacesBy by k (log ++ more) places
  places_more by k [] [] places h = h
  places_more by k [] (y ∷ more) places h = subst (ArePlacesBy by k (y ∷ more)) (sym h) tt
  places_more by k (x ∷ log) more [] h = tt
  places_more by k (x ∷ log) more (p ∷ places) h =
      (elim (p == k) as (λ b. MatchBool b ((x.0 ≡ by) × ArePlacesBy by (suc k) log places) (ArePlacesBy by (suc k) log (p ∷ places))
      → MatchBool b ((x.0 ≡ by) × ArePlacesBy by (suc k) (log ++ more) places) (ArePlacesBy by (suc k) (log ++ more) (p ∷ places)))
      [ true ↦ λ g. (g.0, places_more by (suc k) log more places g.1) | false ↦ λ g. places_more by (suc k) log more (p ∷ places) g ]) h

  pub no_place : (by k : ℕ) (log : List (ℕ × E)) → ArePlacesBy by k log []
  no_place by k [] = refl
  no_place by k (y ∷ log) = tt

  -- the place of one more item that this pass made
  pub places_snoc : (by k n : ℕ) (log : List (ℕ × E)) (e : E) (places : List ℕ) → n ≡ k + length log → ArePlacesBy by k log places → ArePlacesBy by k (log ++ (by, e) ∷ []) (places ++ n ∷ [])
  places_snoc by k n [] e places is h = subst (λ (m : List ℕ). ArePlacesBy by k ((by, e) ∷ []) (m ++ n ∷ [])) (sym h) (at_match true (n == k) _ _ (sym (eq-eqb n k (omega (arith, is)))) (refl, refl))
  places_snoc by k n (x ∷ log) e [] is h = at_match false (n == k) _ _ (sym (ne_eqb n k (λ same. omega (arith, is, same)))) (places_snoc by (suc k) n log e [] (omega (arith, is)) (no_place by (suc k) log))
  places_snoc by k n (x ∷ log) e (p ∷ places) is h =
      (elim (p == k) as (λ b. MatchBool b ((x.0 ≡ by) × ArePlacesBy by (suc k) log places) (ArePlacesBy by (suc k) log (p ∷ places))
      → MatchBool b ((x.0 ≡ by) × ArePlacesBy by (suc k) (log ++ (by, e) ∷ []) (places ++ n ∷ [])) (ArePlacesBy by (suc k) (log ++ (by, e) ∷ []) (p ∷ (places ++ n ∷ []))))
      [ true ↦ λ g. (g.0, places_snoc by (suc k) n log e places (omega (arith, is)) g.1) | false ↦ λ g. places_snoc by (suc k) n log e (p ∷ places) (omega (arith, is)) g ]) h

  pub by_append : (passes : ℕ) (a b : List (ℕ × E)) → AllBy passes a → AllBy passes b → AllBy passes (a ++ b)
  by_append passes [] b p q = q
  by_append passes (x ∷ a) b p q = (p.0, by_append passes a b p.1 q)

  -- after the opening, places in the front are places in the log that it begins
  pub places_prefix : (by base : ℕ) (seen log : List (ℕ × E)) (places : List ℕ) → base ≤ length seen → IsPrefix seen log → ArePlacesBy by base (drop base seen) places → ArePlacesBy by base (drop base log) places
  places_prefix by base seen log places low p h = subst (λ l. ArePlacesBy by base l places) (sym (drop_more base seen p.0 low) ∙ ap (λ (l : List (ℕ × E)). drop base l) p.1) (places_more by base (drop base seen) p.0 places h)

  pub items_opening : (es : List E) → items_of (opening_log es) ≡ es
  items_opening [] = refl
  items_opening (e ∷ es) = ap (λ (l : List E). e ∷ l) (items_opening es)

  pub length-opening_log : (es : List E) → length (opening_log es) ≡ length es
  length-opening_log [] = refl
  length-opening_log (e ∷ es) = ap suc (length-opening_log es)
