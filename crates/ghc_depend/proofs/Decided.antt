-- Whether an order is lawful is decided by going over order and record.
use Rattle.ghc_depend.proofs.Words.{◌≡◌, ◌≢◌, ℕ, ◌≤◌, ◌⊎◌, List, [], ◌∷◌, ◌++◌, map, length, refl, sym, ap, ◌∙◌, subst, inl, inr, arith, Some, None, append_assoc, append-nil, Option, is_some, VarName, GoalName, cases_lt, In, Decided, decided_by, decided_both, decided_either, true_decided, nat_decided, in_decided, key_in, Precedes, AreDistinct, Record, numbers, Before, is_before, before_is, before_in, number_in, number_of, record_once, variables_asked, MakesGoal, ReadsFrom, NamesFrom, DependsOn, IsOfKept, IsOrderOf, IsTooEarly, IsInOrder, IsUnlawful, wrong, missing, too_early, OrdersAreDecided, one_value, some_decided, in_more, in_right}
use Rattle.std.specs.FinMap as finite
use Rattle.std.specs.FinSet as set
use Rattle.std.proofs.Math.Logic.{⊎_swap}
use Rattle.ghc_depend.proofs.Finding.{ends}
use Rattle.ghc_depend.proofs.Picking.{first_bad, first_of}
use Rattle.ghc_depend.proofs.OrderWalks.{one_of_kept}

pub le_decided : (a b : ℕ) → Decided (a ≤ b)
le_decided a b = elim (cases_lt b a) [ inr l ↦ inl l | inl l ↦ inr (λ k. omega arith) ]

known_before : (ns : List ℕ) (a b : ℕ) → Decided (Before ns a b)
known_before [] a b = inr (λ i. i)
known_before (n ∷ ns) a b = decided_either (decided_both (nat_decided a n) (in_decided nat_decided b ns)) (known_before ns a b)

pub by_numbers : (rs : List Record) (a b : Record) → Before rs a b → Before (numbers rs) a.number b.number
by_numbers [] a b h = h
by_numbers (r ∷ rs) a b h = grind (arith, number_in rs b, by_numbers rs a b)

-- where numbers are distinct, a record is the one of its number
the_one : (rs : List Record) (r : Record) (s : Record) → AreDistinct (numbers (s ∷ rs)) → In r (s ∷ rs) → In r.number (numbers rs) → In r rs
the_one rs r s d i j = grind (arith, number_of, record_once)

pub by_records : (rs : List Record) (a b : Record) → AreDistinct (numbers rs) → In a rs → In b rs → Before (numbers rs) a.number b.number → Before rs a b
by_records [] a b d i j h = h
by_records (r ∷ rs) a b d i j (inl h) = inl (record_once (r ∷ rs) a r d i (inl refl) h.0, the_one rs b r d j h.1)
by_records (r ∷ rs) a b d i j (inr h) =
    let k = before_in (numbers rs) a.number b.number h in
    inr (by_records rs a b d.1 (the_one rs a r d i k.0) (the_one rs b r d j k.1) h)

pub known_consumed : (o : Option GoalName) (a : Record) → Decided ((g : GoalName) × (o ≡ Some g) × MakesGoal a g)
known_consumed None a = inr (λ c. let clash : None ≡ Some c.0 = c.1 in cc)
known_consumed (Some g) a =
    elim (decided_both (nat_decided g.step a.number) (decided_both (le_decided 1 g.place) (le_decided g.place (length a.effect.makes)))) [
      | inl p ↦ inl (g, refl, (p.0, p.1.0, p.1.1))
      | inr n ↦ inr (λ c. n (rw (one_value g c.0 c.1) (c.2.0, (c.2.1, c.2.2))))
    ]

known_reads : (b a : Record) → Decided ((x : VarName) × ReadsFrom b a x)
known_reads b a =
    elim (some_decided (map (λ e. e.0) (finite.entries a.effect.binds)) (ReadsFrom b a) (λ x _.
    decided_both (true_decided (set.contains b.effect.reads x)) (true_decided (finite.contains_key a.effect.binds x)))) [
      | inl r ↦ inl (r.0, r.2)
      | inr n ↦ inr (λ r. n (r.0, key_in (finite.entries a.effect.binds) r.0 (ap is_some (sym (finite.get-entries a.effect.binds r.0)) ∙ r.1.1), r.1))
    ]

pub decided_not : {A : Type 0} → Decided A → Decided (¬ A)
decided_not (inl a) = inr (λ n. n a)
decided_not (inr n) = inl n

known_names : (b a : Record) → Decided ((x : VarName) × NamesFrom b a x)
known_names b a =
    elim (some_decided (variables_asked b.act) (λ x. (x.step ≢ b.number) × ((x.step ≡ a.number) × ((1 ≤ x.place) × (x.place ≤ a.effect.fresh)))) (λ x _.
    decided_both (decided_not (nat_decided x.step b.number))
    (decided_both (nat_decided x.step a.number) (decided_both (le_decided 1 x.place) (le_decided x.place a.effect.fresh))))) [
      | inl p ↦ inl (p.0, ((p.1, p.2.0), (p.2.1.0, p.2.1.1.0, p.2.1.1.1)))
      | inr n ↦ inr (λ p. n (p.0, p.1.0.0, (p.1.0.1, (p.1.1.0, (p.1.1.1, p.1.1.2)))))
    ]

module _ (kept : List Record) (distinct : AreDistinct (numbers kept)) where
  pub known_depends : (b a : Record) → In a kept → In b kept → Decided (DependsOn kept b a)
  known_depends b a i j =
      decided_both (decided_by (λ h. before_is kept a b (by_records kept a b distinct i j h)) (λ p. by_numbers kept a b (is_before kept a b p)) (known_before (numbers kept) a.number b.number))
      (decided_either (known_consumed b.goal a) (decided_either (known_reads b a) (known_names b a)))

  known_early : (order : List ℕ) (a b : Record) → In a kept → In b kept → Decided (IsTooEarly kept order a b)
  known_early order a b i j =
      decided_both (known_depends b a i j) (decided_by (before_is order b.number a.number) (is_before order b.number a.number) (known_before order b.number a.number))

  module _ (order : List ℕ) where
    -- the first step before which b stands too early
    abbrev FirstEarly : Record → Record → Type 0
    FirstEarly b a = IsTooEarly kept order a b × ((c : Record) → IsTooEarly kept order c b → (c ≡ a) ⊎ Precedes kept a c)

    first_step : (b : Record) → In b kept → ((a : Record) × FirstEarly b a) ⊎ ((c : Record) → ¬ IsTooEarly kept order c b)
    first_step b j = first_of (λ a. IsTooEarly kept order a b) kept (λ c t. (ends kept b c t.0).0) (λ a i. known_early order a b i j)

    abbrev Fails : Type 0
    Fails = (a b : ℕ) × IsUnlawful kept order a b

    first_early : IsOrderOf kept order → (done rest : List ℕ) → order ≡ done ++ rest → ((c d : Record) → In d.number done → ¬ IsTooEarly kept order c d)
        → Fails ⊎ ((a b : Record) → ¬ IsTooEarly kept order a b)
    first_early o done [] e h = inr (λ a b t. h a b (subst (In b.number) (e ∙ append-nil done) (before_in order b.number a.number (is_before order b.number a.number t.1)).0) t)
    first_early o done (n ∷ rest) e h =
        let b = number_of kept n (o.0.0 n (subst (In n) (sym e) (in_right done (n ∷ rest) n (inl refl)))) in
        elim (first_step b.0 b.1) [
          | inl f ↦ inl (f.0.number, b.0.number, too_early o (record { front = done; behind = rest; splits = e ∙ ap (λ z. done ++ z ∷ rest) (sym b.2); before = h; early = f.1.0; first = f.1.1 }))
          | inr none ↦ first_early o (done ++ n ∷ []) rest (e ∙ sym (append_assoc done (n ∷ []) rest)) (λ c d i t. elim (in_more done n d.number i) [
            | inl k ↦ h c d k t
            | inr same ↦ none c (subst (IsTooEarly kept order c) (record_once kept d b.0 distinct (ends kept d c t.0).1 b.1 (same ∙ sym b.2)) t)
          ])
        ]

    of_kept : (done rest : List ℕ) → order ≡ done ++ rest → IsOfKept kept done → Fails ⊎ IsOfKept kept order
    of_kept done [] e k = inr (subst (IsOfKept kept) (sym (e ∙ append-nil done)) k)
    of_kept done (n ∷ rest) e k = elim (in_decided nat_decided n (numbers kept)) [
      | inr no_one ↦ inl (n, n, wrong (record { front = done; behind = rest; splits = e; before = k; not_new = inl no_one }))
      | inl there ↦ elim (in_decided nat_decided n done) [
        | inl twice ↦ inl (n, n, wrong (record { front = done; behind = rest; splits = e; before = k; not_new = inr twice }))
        | inr new ↦ of_kept (done ++ n ∷ []) rest (e ∙ sym (append_assoc done (n ∷ []) rest)) (one_of_kept kept done n k there new)
      ]
    ]

    none_missing : IsOfKept kept order → Fails ⊎ ((n : ℕ) → In n (numbers kept) → In n order)
    none_missing k = elim (first_bad (λ r. ¬ In r.number order) (λ r. In r.number order) kept (λ r _. ⊎_swap (in_decided nat_decided r.number order))) [
      | inl p ↦ inl (p.2.number, 0, missing k (record { front = p.0; behind = p.1; splits = p.3; before = by_record p.0 p.5; absent = p.4 }))
      | inr all ↦ inr (by_record kept all)
    ] where
      by_record : (rs : List Record) → ((r : Record) → In r rs → In r.number order) → (n : ℕ) → In n (numbers rs) → In n order
      by_record rs f n i = let q = number_of rs n i in subst (λ z. In z order) q.2 (f q.0 q.1)

    -- the records of kept numbers, in their order
    records_of : (ns : List ℕ) → ((n : ℕ) → In n ns → In n (numbers kept)) → (new : List Record) × (numbers new ≡ ns) × ((r : Record) → In r new → In r kept)
    records_of [] h = ([], refl, λ r i. absurd i)
    records_of (n ∷ ns) h =
        let r = number_of kept n (h n (inl refl)) in
        let rest = records_of ns (λ m i. h m (inr i)) in
        (r.0 ∷ rest.0, (λ i. r.2 i ∷ rest.1 i), λ s i. elim i [ inl e ↦ subst (λ z. In z kept) (sym e) r.1 | inr j ↦ rest.2 s j ])

    in_order : IsOrderOf kept order → (new : List Record) × IsInOrder kept order new
    in_order o =
        let p = records_of order o.0.0 in (
          p.0,
          (
            p.1,
            λ r. (
              p.2 r,
              λ i.
                  let q = number_of p.0 r.number (subst (In r.number) (sym p.1) (o.1 r.number (number_in kept r i))) in
                  subst (λ z. In z p.0) (record_once kept q.0 r distinct (p.2 q.0 q.1) i q.2) q.1,
            ),
          ),
        )

pub decided : OrdersAreDecided
decided kept order distinct = elim (of_kept kept distinct order [] order refl ((λ n i. absurd i), tt)) [
  | inl f ↦ inr f
  | inr k ↦ elim (none_missing kept distinct order k) [
    | inl f ↦ inr f
    | inr all ↦ elim (first_early kept distinct order (k, all) [] order refl (λ c d i. absurd i)) [
      | inl f ↦ inr f
      | inr none ↦ inl (((k, all), none), in_order kept distinct order (k, all))
    ]
  ]
]
