-- A text can tell the spies of a session: each has a name, and they are no more than the program has clauses.
use Rattle.ghcdb.proofs.CitedWords.{◌≡◌, ◌≤◌, ℕ, true, List, [], ◌∷◌, length, map, inl, inr, sym, ap, subst, arith, In, in_map, Program, HasClauseFor, Predicate, Spies, HasPredicate, predicate, predicate_cmp, predicate_total, spied_of, spies_in_order}
use Rattle.std.proofs.Common.{T}
use Rattle.std.proofs.lemmas.List.{length-map}
use Rattle.std.specs.Cmp.{eq_by_cmp_equiv}
use Rattle.std.specs.declared.cmp.Ordering.{Ordering}
use Rattle.std.specs.declared.cmp.Ordering.TheVariants.{Less, Equal, Greater}
use Rattle.std.specs.Ordering.{is_eq, is_lt}
use Rattle.std.specs.FinMap as finite
use Rattle.std.specs.FinMap.Entries.{below_all, is_sorted}
use Rattle.std.specs.FinSet as set
use Rattle.ghc_term.specs.InputTerm.{IsNameText}
use Rattle.ghc_term.proofs.ListsLemmas.{in_at}
use Rattle.ghc_flat.specs.Clause.{Clause}
use Rattle.ghc_records.specs.ChronicleLaws.{CanBeSpied}
use Rattle.ghc_reader.specs.Lexed.{greatest_number}
use Rattle.ghc_records.specs.Orders.{AreDistinct}
use Rattle.ghc_records.specs.declared.predicate.Predicate as written
use Rattle.ghc_records.proofs.PickLemmas.{no_longer}
use Rattle.ghc_trace.specs.Spies.{as_written, in_order}
use Rattle.ghcdb.proofs.SavedAgain.{held}
use Rattle.ghc_term.proofs.GoalMaps.{parts}

-- each predicate that is spied has a name of the grammar, and an arity of 32 bits
abbrev pub HaveNames : Spies → Type 0
HaveNames spies = (f : List ℕ) (n : ℕ) → HasPredicate spies f n → IsNameText f × (n ≤ greatest_number)

-- ---- the keys of a map are distinct

below : (x : Predicate) (es : List (Predicate × Unit {0})) → T (below_all predicate_cmp x es) → (y : Predicate) → In y (map (λ e. e.0) es) → T (is_lt (predicate_cmp x y))
below x [] h y i = absurd i
below x (e ∷ es) h y (inl same) = subst (λ z. T (is_lt (predicate_cmp x z))) (sym same) (parts (is_lt (predicate_cmp x e.0)) (below_all predicate_cmp x es) h).0
below x (e ∷ es) h y (inr i) = below x es (parts (is_lt (predicate_cmp x e.0)) (below_all predicate_cmp x es) h).1 y i

not_less : (o : Ordering) → is_eq o ≡ true → ¬ T (is_lt o)
not_less Less e h = cc
not_less Equal e h = absurd h
not_less Greater e h = absurd h

keys_distinct : (es : List (Predicate × Unit {0})) → T (is_sorted predicate_cmp es) → AreDistinct (map (λ e. e.0) es)
keys_distinct [] h = tt
keys_distinct (e ∷ es) h =
    let each = parts (below_all predicate_cmp e.0 es) (is_sorted predicate_cmp es) h in
    (λ i. not_less (predicate_cmp e.0 e.0) ((eq_by_cmp_equiv predicate_total).refl e.0) (below e.0 es each.0 e.0 i), keys_distinct es each.1)

-- .. and so are predicates as they are written
abbrev back : written.Predicate → Predicate
back q = predicate q.name q.arity

written_from : (ps : List Predicate) (q : written.Predicate) → In q (map as_written ps) → In (back q) ps
written_from (p ∷ ps) q (inl e) = inl (ap back e)
written_from (p ∷ ps) q (inr i) = inr (written_from ps q i)
written_from [] q i = absurd i

written_distinct : (ps : List Predicate) → AreDistinct ps → AreDistinct (map as_written ps)
written_distinct [] d = tt
written_distinct (p ∷ ps) d = (λ i. d.0 (written_from ps (as_written p) i), written_distinct ps d.1)

listed_distinct : (spies : Spies) → AreDistinct (spies_in_order spies)
listed_distinct spies =
    let ps = set.items spies in
    written_distinct (in_order ps) (keys_distinct _ (finite.entries_sorted (finite.from_entries {R = predicate_cmp} (map (λ p. (p, tt {0})) ps))))

-- ---- each has a clause of its own

-- the predicate of a clause
abbrev of_clause : Clause → written.Predicate
of_clause c = record { name = c.name; arity = length c.head }

module _ (P : Program) (spies : Spies) (same : spied_of (spies_in_order spies) ≡ spies) where
  spied : (p : written.Predicate) → In p (spies_in_order spies) → HasPredicate spies p.name p.arity
  spied p i = subst (λ s. HasPredicate s p.name p.arity) same (held (spies_in_order spies) p i)

  pub few_listed : ((f : List ℕ) (n : ℕ) → HasPredicate spies f n → HasClauseFor P f n) → length (spies_in_order spies) ≤ length P
  few_listed known =
      let has : (p : written.Predicate) → In p (spies_in_order spies) → In p (map of_clause P) =
      λ p i.
      let c = known p.name p.arity (spied p i) in
      let is : p ≡ of_clause c.1 = (λ j. record { name = sym c.3 j; arity = sym c.4 j }) in
      subst (λ z. In z (map of_clause P)) (sym is) (in_map of_clause P c.1 (in_at P c.2.0 c.1 c.2.2)) in
      omega (arith, no_longer (spies_in_order spies) (map of_clause P) (listed_distinct spies) has, length-map P of_clause)

  pub can_be_spied : HaveNames spies → (p : written.Predicate) → In p (spies_in_order spies) → CanBeSpied p
  can_be_spied named p i = named p.name p.arity (spied p i)
