-- The spies of a set in their order, what is said of each of them, and sets of written predicates.
use Rattle.ghc_trace.proofs.Words.{◌≡◌, ℕ, ◌+◌, ◌≤◌, ◌<◌, Bool, true, false, cond, ◌||◌, List, [], ◌∷◌, length, map, take, drop, get_or, All, refl, sym, ap, ◌∙◌, subst, drop_all, take_more, map-append, All-contains, All-from_any, Contains-from_any, Some, None, is_some, list_any, IsStrictlySortedBy, keys_of, eq_by_cmp, is_eq, IsEquivalence, eq_by_cmp_equiv, Equal-is, entries_are, Predicate, Spies, predicate, predicate_cmp, as_written, in_order, spied_of, spies_in_order}
use Rattle.std.specs.FinSet as set
use Rattle.std.specs.FinMap as finite
use Rattle.ghc_records.specs.declared.predicate.Predicate as written
use Rattle.ghc_trace.proofs.Spied.{predicate_total, predicate_antisymmetric, same, same_is}
use Rattle.ghc_records.proofs.NameOrder.{moved}

-- the predicate is among the predicates
abbrev pub has : Predicate → List Predicate → Bool
has q ps = list_any (eq_by_cmp predicate_cmp q) ps

-- the predicates, each with nothing
abbrev marked : List Predicate → List (Predicate × Unit {0})
marked ps = map (λ p. (p, tt {0})) ps

keys_marked : (ps : List Predicate) → keys_of (marked ps) ≡ ps
keys_marked [] = refl
keys_marked (p ∷ ps) = ap (λ l. p ∷ l) (keys_marked ps)

found_marked : (q : Predicate) (ps : List Predicate) → finite.find predicate_cmp q (marked ps) ≡ cond (has q ps) (Some (tt {0})) None
found_marked q [] = refl
found_marked q (p ∷ ps) =
    elim (eq_by_cmp predicate_cmp q p) as (λ b. cond b (Some (tt {0})) (finite.find predicate_cmp q (marked ps)) ≡ cond (b || has q ps) (Some (tt {0})) None) [
      | true ↦ refl
      | false ↦ found_marked q ps
    ]

-- predicates that rise stand in their order
rising : (ps : List Predicate) → IsStrictlySortedBy predicate_cmp ps → in_order ps ≡ ps
rising ps h = ap (λ es. map (λ e. e.0) es) (entries_are predicate_total predicate_antisymmetric (marked ps) (subst (IsStrictlySortedBy predicate_cmp) (sym (keys_marked ps)) h)) ∙ keys_marked ps

-- the same predicates give the same list
alike : (ps qs : List Predicate) → ((q : Predicate) → has q ps ≡ has q qs) → in_order ps ≡ in_order qs
alike ps qs h =
    ap finite.keys (finite.same_map predicate_total predicate_antisymmetric (finite.from_entries (marked ps)) (finite.from_entries (marked qs)) (λ q.
    finite.get-from_entries predicate_total (marked ps) q ∙ found_marked q ps ∙ ap (λ b. cond b (Some (tt {0})) None) (h q)
    ∙ sym (finite.get-from_entries predicate_total (marked qs) q ∙ found_marked q qs)))

or_nothing : (a : Bool) → (a || false) ≡ a
or_nothing true = refl
or_nothing false = refl

-- the predicates that a set holds, once they are all put in order
pub put_in_order : (s : Spies) (members ordered : List Predicate) (i : ℕ) → set.from_list members ≡ s → length members ≤ i
    → ((q : Predicate) → (has q ordered || has q (drop i members)) ≡ has q members) → IsStrictlySortedBy predicate_cmp ordered → ordered ≡ in_order (set.items s)
put_in_order s members ordered i e all h order =
    let none_left : drop i members ≡ [] = drop_all i members all in
    sym (rising ordered order) ∙ alike ordered (set.items s) (λ q.
    sym (or_nothing (has q ordered)) ∙ ap (λ l. has q ordered || has q l) (sym none_left) ∙ h q ∙ sym (set.contains-from_list predicate_total members q)
    ∙ ap (λ t. set.contains t q) e ∙ set.contains-items s q)

-- one more predicate is put in
pub one_put : (members ordered more rest : List Predicate) (p : Predicate) (i : ℕ) → drop i members ≡ p ∷ rest
    → ((q : Predicate) → has q more ≡ cond (is_eq (predicate_cmp p q)) true (has q ordered))
    → ((q : Predicate) → (has q ordered || has q (drop i members)) ≡ has q members) → (q : Predicate) → (has q more || has q rest) ≡ has q members
one_put members ordered more rest p i e put h q =
    ap (λ b. b || has q rest) (put q ∙ ap (λ b. cond b true (has q ordered)) ((eq_by_cmp_equiv predicate_total).symm p q))
    ∙ moved (has q ordered) (eq_by_cmp predicate_cmp q p) (has q rest) (has q members) (ap (λ l. has q ordered || has q l) (sym e) ∙ h q)

-- equality of predicates, as the code has it, is an equivalence, and equal ones are one
same_equivalence : IsEquivalence same
same_equivalence =
    let by_order = eq_by_cmp_equiv predicate_total in
    record {
      refl = λ p. same_is p p ∙ by_order.refl p;
      symm = λ p q. same_is p q ∙ by_order.symm p q ∙ sym (same_is q p);
      congr = λ p q r h. same_is p r ∙ by_order.congr p q r (sym (same_is p q) ∙ h) ∙ sym (same_is q r);
    }

same_one : (p q : Predicate) → same p q ≡ true → p ≡ q
same_one p q h = predicate_antisymmetric p q ((Equal-is (predicate_cmp p q)).0 (sym (same_is p q) ∙ h))

was_there : (b c : Bool) → cond b false c ≡ true → c ≡ true
was_there true c h = absurd (let clash : false ≡ true = h in cc)
was_there false c h = h

-- what holds of each predicate holds of each where one is taken out
pub kept_of_each : (P : Predicate → Type 0) (old new : List Predicate) (p : Predicate) → ((q : Predicate) → list_any (same q) new ≡ cond (same p q) false (list_any (same q) old)) → All P old → All P new
kept_of_each P old new p taken each =
    All-from_any same_equivalence P new (λ q found. All-contains P old q each (Contains-from_any same_one q old (was_there (same p q) (list_any (same q) old) (sym (taken q) ∙ found))))

-- one more written predicate is added
pub one_spied : (ps : List written.Predicate) (i : ℕ) (d : written.Predicate) → i < length ps
    → spied_of (take (i + 1) ps) ≡ set.insert (spied_of (take i ps)) (predicate (get_or ps i d).name (get_or ps i d).arity)
one_spied ps i d l =
    let spied : written.Predicate → Predicate = λ p. predicate p.name p.arity in
    ap (λ l. set.from_list {R = predicate_cmp} (map spied l)) (take_more ps i d l)
    ∙ ap (λ l. set.from_list {R = predicate_cmp} l) (map-append spied (take i ps) (get_or ps i d ∷ []))
    ∙ set.from_list_push predicate_total predicate_antisymmetric (map spied (take i ps)) (spied (get_or ps i d))

-- a predicate that is listed in order is one of those that were given
listed : (q : Predicate) (ps : List Predicate) → has q (in_order ps) ≡ has q ps
listed q ps =
    sym (finite.contains_key-keys (finite.from_entries {R = predicate_cmp} (marked ps)) q) ∙ ap (λ o. is_some o) (finite.get-from_entries predicate_total (marked ps) q ∙ found_marked q ps) ∙ is_found (has q ps)
  where
    is_found : (b : Bool) → is_some (cond b (Some (tt {0})) None) ≡ b
    is_found true = refl
    is_found false = refl

written_back : (ps : List Predicate) → map (λ p. predicate p.name p.arity) (map as_written ps) ≡ ps
written_back [] = refl
written_back (p ∷ ps) = ap (λ l. p ∷ l) (written_back ps)

-- what a set lists in order makes the set again
pub come_back : (s : Spies) → spied_of (spies_in_order s) ≡ s
come_back s =
    ap (λ l. set.from_list {R = predicate_cmp} l) (written_back (in_order (set.items s)))
    ∙ set.same_set predicate_total predicate_antisymmetric (set.from_list (in_order (set.items s))) s (λ q.
    set.contains-from_list predicate_total (in_order (set.items s)) q ∙ listed q (set.items s) ∙ sym (set.contains-items s q))
