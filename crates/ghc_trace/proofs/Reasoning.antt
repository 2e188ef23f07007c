-- The steps on which a kept step depends are found one after another.
use Rattle.ghc_trace.proofs.Words.{◌≡◌, ℕ, zero, suc, ◌+◌, ◌-◌, ◌<◌, ◌≤◌, arith, List, [], ◌∷◌, ◌++◌, length, map, take, refl, sym, ap, ◌∙◌, subst, inl, inr, Some, None, slice_get, map-append, take_all, slice_get_within, In, in_at, in_either, Picks, nothing, AreDistinct, Record, numbers, record_once, SlotList, held_in, rank, rank_stands, rank_back, of_map, map_of, Cause, DependsOn, IsKeptAs, HasCause, by_making, by_reading, by_naming, IsDirect, pick_last, leave_last, at_split, Reason, Uses, reason_of, AreReasonsTold, StandsIn, HasNumberIn, stands_held}
use Rattle.ghc_trace.specs.Causes.{HasInFront}
use Rattle.ghc_trace.proofs.Slicing.{in_front_of}

-- of the first i records, found are those on which b depends, as told
pub record Gathered (kept : List Record) (b : Record) (i : ℕ) (items : List Reason) : Type 0 where
  pub found : List (Record × Cause)
  pub picked : Picks (DependsOn kept b) (take i kept) (map (λ p. p.0) found)
  pub caused : (p : Record × Cause) → In p found → HasCause kept b p.0 p.1
  pub told : items ≡ map reason_of found

-- what has a cause depends
depends : {kept : List Record} {b a : Record} {cause : Cause} → HasCause kept b a cause → DependsOn kept b a
depends (by_making p c) = (p, inl c)
depends (by_reading {x = x} p n l w) = (p, inr (inl (x, l.0)))
depends (by_naming {x = x} p n u l) = (p, inr (inr (x, l.0)))

module _ (kept : List Record) (distinct : AreDistinct (numbers kept)) (n : ℕ) (b : Record) (own : IsKeptAs kept n b) where
  module _ (i : ℕ) (items : List Reason) (g : Gathered kept b i items) where
    -- at the end all are found
    pub finished : length kept ≤ i → AreReasonsTold kept n items
    finished h = (g.found, (b, own, (subst (λ l. Picks (DependsOn kept b) l (map (λ p. p.0) g.found)) (take_all i kept h) g.picked, g.caused)), g.told)

    module _ (a : Record) (at : slice_get kept i ≡ Some a) where
      there : IsKeptAs kept a.number a
      there = (in_at kept i a at, refl)

      more : take (i + 1) kept ≡ take i kept ++ a ∷ []
      more = (at_split kept i a at).2

      -- the next one is a reason
      pub gathered : (cause : Cause) (new : List Reason) → IsDirect kept n a.number (Some cause) → new ≡ items ++ record { step = a.number; cause = cause } ∷ [] → Gathered kept b (i + 1) new
      gathered cause new d e =
          let later : d.0 ≡ b = record_once kept d.0 b distinct d.2.0 own.0 (d.2.1 ∙ sym own.1) in
          let earlier : d.1 ≡ a = record_once kept d.1 a distinct d.3.0 there.0 d.3.1 in
          let h : HasCause kept b a cause = subst (λ z. HasCause kept z a cause) later (subst (λ z. HasCause kept d.0 z cause) earlier d.4) in
          record {
            found = g.found ++ (a, cause) ∷ [];
            picked = subst (λ l. Picks (DependsOn kept b) l (map (λ p. p.0) (g.found ++ (a, cause) ∷ []))) (sym more)
                (subst (Picks (DependsOn kept b) (take i kept ++ a ∷ [])) (sym (map-append (λ p. p.0) g.found ((a, cause) ∷ []))) (pick_last (take i kept) (map (λ p. p.0) g.found) a g.picked (depends h)));
            caused = λ p k. elim (in_either g.found ((a, cause) ∷ []) p k) [
              | inl j ↦ g.caused p j
              | inr (inl e) ↦ subst (λ (q : Record × Cause). HasCause kept b q.0 q.1) (sym e) h
              | inr (inr j) ↦ absurd j
            ];
            told = e ∙ ap (λ l. l ++ record { step = a.number; cause = cause } ∷ []) g.told ∙ sym (map-append reason_of g.found ((a, cause) ∷ []));
          }

      -- the next one is none
      pub passed : IsDirect kept n a.number None → Gathered kept b (i + 1) items
      passed d = record {
        found = g.found;
        picked = subst (λ l. Picks (DependsOn kept b) l (map (λ p. p.0) g.found)) (sym more) (leave_last (take i kept) (map (λ p. p.0) g.found) a g.picked (d b a own there));
        caused = g.caused;
        told = g.told;
      }

-- nothing between is one
some_at : (xs : List Record) (i : ℕ) → i < length xs → (x : Record) × (slice_get xs i ≡ Some x)
some_at [] i h = absurd (omega (arith, h))
some_at (x ∷ xs) zero h = (x, refl)
some_at (x ∷ xs) (suc i) h = some_at xs i (omega (arith, h))

module _ (kept : List Record) (b : Record) (far : ℕ) (items : List Reason) where
  none_between : Gathered kept b far items → (d : ℕ) → far + d ≤ length kept → ((a : Record) (p : ℕ) → slice_get kept p ≡ Some a → far ≤ p → p < far + d → ¬ DependsOn kept b a) → Gathered kept b (far + d) items
  none_between g zero within none = subst (λ k. Gathered kept b k items) (let e : far ≡ far + 0 = omega arith in e) g
  none_between g (suc d) within none =
      let before = none_between g d (omega (arith, within)) (λ a p at near high. none a p at near (omega (arith, high))) in
      let a = some_at kept (far + d) (omega (arith, within)) in
      subst (λ k. Gathered kept b k items) (let e : (far + d) + 1 ≡ far + suc d = omega arith in e) (record {
        found = before.found;
        picked = subst (λ l. Picks (DependsOn kept b) l (map (λ p. p.0) before.found)) (sym (at_split kept (far + d) a.0 a.1).2)
            (leave_last (take (far + d) kept) (map (λ p. p.0) before.found) a.0 before.picked (λ depends. none a.0 (far + d) a.1 (omega arith) (omega arith) depends));
        caused = before.caused;
        told = before.told;
      })

  pub skipped : Gathered kept b far items → (place : ℕ) → far ≤ place → place ≤ length kept → ((a : Record) (p : ℕ) → slice_get kept p ≡ Some a → far ≤ p → p < place → ¬ DependsOn kept b a) → Gathered kept b place items
  skipped g place near within none =
      let same : far + (place - far) ≡ place = omega (arith, near) in
      subst (λ k. Gathered kept b k items) same (none_between g (place - far) (omega (arith, near, within)) (λ a p at l h. none a p at l (omega (arith, near, h))))

-- of the first records up to some place all reasons are found, and the places of others are ahead
pub record IsSearched (kept : List Record) (b : Record) (ahead : List ℕ) (items : List Reason) : Type 0 where
  pub far : ℕ
  pub so_far : Gathered kept b far items
  pub short : far ≤ length kept
  pub within : (p : ℕ) → In p ahead → p < length kept
  pub near : (p : ℕ) → In p ahead → far ≤ p
  pub all : (a : Record) (p : ℕ) → slice_get kept p ≡ Some a → far ≤ p → DependsOn kept b a → In p ahead

module _ (kept : List Record) (b : Record) (ahead : List ℕ) (items : List Reason) (s : IsSearched kept b ahead items) where
  -- up to the first place ahead there is no other
  pub up_to : (place : ℕ) (rest : List ℕ) → ahead ≡ place ∷ rest → ((p : ℕ) → In p rest → place < p) → Gathered kept b place items
  up_to place rest e behind =
      skipped kept b s.far items s.so_far place (s.near place (subst (In place) (sym e) (inl refl))) (let w = s.within place (subst (In place) (sym e) (inl refl)) in omega (arith, w))
      (λ a p at l high u. elim (subst (In p) e (s.all a p at l u)) [ inl same ↦ omega (arith, same, high) | inr j ↦ let k = behind p j in omega (arith, k, high) ])

  -- and the others come after it
  pub behind_it : (place : ℕ) (rest : List ℕ) (new : List Reason) → ahead ≡ place ∷ rest → ((p : ℕ) → In p rest → place < p) → Gathered kept b (place + 1) new → IsSearched kept b rest new
  behind_it place rest new e behind g = record {
    far = place + 1;
    so_far = g;
    short = let w = s.within place (subst (In place) (sym e) (inl refl)) in omega (arith, w);
    within = λ p i. s.within p (subst (In p) (sym e) (inr i));
    near = λ p i. let h = behind p i in omega (arith, h);
    all = λ a p at l u. elim (subst (In p) e (s.all a p at (let h = s.near place (subst (In place) (sym e) (inl refl)) in omega (arith, h, l)) u)) [ inl same ↦ absurd (omega (arith, same, l)) | inr j ↦ j ];
  }

  -- where none is ahead, all are found
  pub none_ahead : ahead ≡ [] → Gathered kept b (length kept) items
  none_ahead e = skipped kept b s.far items s.so_far (length kept) s.short (omega arith) (λ a p at l high u. subst (In p) e (s.all a p at l u))

-- a step stands at each place in front
pub stands_ahead : (ss : SlotList) (place : ℕ) (P : Record → Type 0) (ahead : List ℕ) → HasInFront ss place P [] ahead → (p : ℕ) → In p ahead → (a : Record) × StandsIn ss p a
stands_ahead ss place P ahead q p i = elim ((q p).0 i) [ inl never ↦ absurd never | inr f ↦ (f.1, f.2) ]

-- a number that has a place is kept
pub still_kept : (rs : List Record) (ss : SlotList) → rs ≡ held_in ss → (place n : ℕ) → HasNumberIn ss place n → ¬ ((r : Record) → In r rs → ¬ (r.number ≡ n))
still_kept rs ss is place n f none = none f.0 (subst (In f.0) (sym is) (stands_held ss place f.0 f.1)) f.2

-- at first the places of those on which it depends are ahead
pub search : (ss : SlotList) → AreDistinct (numbers (held_in ss)) → (place : ℕ) (b : Record) (at : StandsIn ss place b) (ahead : List ℕ) (items : List Reason)
    → HasInFront ss place (Uses b) [] ahead → items ≡ [] → IsSearched (held_in ss) b (map (rank ss) ahead) items
search ss distinct place b at ahead items q e = record {
  far = 0;
  so_far = record { found = []; picked = nothing; caused = λ p i. absurd i; told = e };
  short = omega arith;
  within = λ i j.
      let w = of_map (rank ss) ahead i j in
      let a = stands_ahead ss place (Uses b) ahead q w.0 w.1 in
      subst (λ k. k < length (held_in ss)) w.2 (slice_get_within (held_in ss) (rank ss w.0) a.0 (rank_stands ss w.0 a.0 a.1));
  near = λ p i. omega arith;
  all = λ a i there l d.
      let w = rank_back ss i a there in
      subst (λ k. In k (map (rank ss) ahead)) w.2 (map_of (rank ss) ahead w.0 ((q w.0).1 (inr (in_front_of ss distinct w.0 place a b w.1 at d.0, a, w.1, d.1))));
}
