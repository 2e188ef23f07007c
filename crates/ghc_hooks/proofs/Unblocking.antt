-- The goals that do not wait, after a goal was noted, lost its note, or was put in order.
use Rattle.ghc_hooks.proofs.Words.{◌≡◌, ◌∙◌, ◌⊎◌, [], true, false, sym, ap, subst, inl, inr, cond, None, Some, IsTrue, eq_by_cmp, GoalName, not_both, goal_cmp, goal_total, goal_antisymmetric, in_contains, contains_in, In, Status, IsNoWait, ready, waiting, failed, IsNotedAs, Fault, Note, NotesByGoal, Unblocked, IsUnblocked, IsSorted, IsAmong, AreUnblocked, SortsIn, SortsOut, one_value, ◌↔◌, arith}
use Rattle.std.specs.FinMap as finite
use Rattle.std.specs.FinSet as set
use Rattle.std.specs.BTreeSet.{BTreeSet, contains, Updates}
use Rattle.std.proofs.lemmas.Map.Views.{btree_set_contains_iff}
use Rattle.ghc_hooks.proofs.Looking.{goal_cases, goal_itself, goal_put, goal_taken}
use Rattle.ghc_hooks.proofs.NotedFaces.{grown, shrunk, through}
use Rattle.ghc_hooks.proofs.Fitting.{AreNoted, noted_put, noted_gone}

module _ (old new : BTreeSet GoalName) (g : GoalName) where
  -- a goal was put into an ordered set
  pub is_added : Updates goal_cmp old new g true → SortsIn g old new
  is_added more h =
      let other : eq_by_cmp goal_cmp g h ≡ false → contains goal_cmp new h ≡ contains goal_cmp old h = λ d. more.0 h ∙ ap (λ b. cond b true (contains goal_cmp old h)) d in (
        λ yes. elim (goal_cases g h) [ inl p ↦ inr (sym p) | inr d ↦ inl (sym (other d) ∙ yes) ],
        λ k. elim k [
          | inl l ↦ elim (goal_cases g h) [ inl p ↦ subst (λ z. IsTrue (contains goal_cmp new z)) p more.1 | inr d ↦ other d ∙ l ]
          | inr q ↦ subst (λ z. IsTrue (contains goal_cmp new z)) (sym q) more.1
        ],
      )

  -- a goal was taken out of one
  pub is_taken : Updates goal_cmp old new g false → SortsOut g old new
  is_taken less h =
      let other : eq_by_cmp goal_cmp g h ≡ false → contains goal_cmp new h ≡ contains goal_cmp old h = λ d. less.0 h ∙ ap (λ b. cond b false (contains goal_cmp old h)) d in
      let gone : g ≡ h → contains goal_cmp new h ≡ false = λ p. subst (λ z. contains goal_cmp new z ≡ false) p less.1 in (
        λ yes. elim (goal_cases g h) [
          | inl p ↦ absurd (not_both (contains goal_cmp new h) (gone p) yes)
          | inr d ↦ (sym (other d) ∙ yes, λ q. not_both (contains goal_cmp new h) (gone (sym q)) yes)
        ],
        λ k. elim (goal_cases g h) [ inl p ↦ absurd (k.1 (sym p)) | inr d ↦ other d ∙ k.0 ],
      )

-- a goal that is not in an ordered set is not taken out of it
pub not_taken : (old : BTreeSet GoalName) (g : GoalName) → ¬ IsTrue (contains goal_cmp old g) → SortsOut g old old
not_taken old g none h = (λ k. (k, λ q. none (subst (λ z. IsTrue (contains goal_cmp old z)) q k)), λ k. k.0)

-- one goal more or less, among goals that are kept in several places
put_first : {A' A B New : Type 0} → A' ↔ (A ⊎ New) → (A' ⊎ B) ↔ ((A ⊎ B) ⊎ New)
put_first more = grind arith

put_second : {A B' B New : Type 0} → B' ↔ (B ⊎ New) → (A ⊎ B') ↔ ((A ⊎ B) ⊎ New)
put_second more = grind arith

gone_each : {A' A B' B C' C Gone : Type 0} → A' ↔ (A × ¬ Gone) → B' ↔ (B × ¬ Gone) → C' ↔ (C × ¬ Gone) → (A' ⊎ B' ⊎ C') ↔ ((A ⊎ B ⊎ C) × ¬ Gone)
gone_each a b c = grind arith

moved : {A' A B' B Moved All : Type 0} → Moved ⊎ ¬ Moved → A' ↔ (A × ¬ Moved) → B' ↔ (B ⊎ Moved) → (A ⊎ B) ↔ All → (Moved → All) → (A' ⊎ B') ↔ All
moved decided less more all there = grind arith

-- names are one or not
one_or_not : (h g : GoalName) → (h ≡ g) ⊎ ¬ (h ≡ g)
one_or_not h g = elim (goal_cases h g) [ inl p ↦ inl p | inr d ↦ inr (λ p. not_both (eq_by_cmp goal_cmp h g) d (subst (λ z. IsTrue (eq_by_cmp goal_cmp z g)) (sym p) (goal_itself g))) ]

-- a goal that is ready or has failed does not wait
pub ready_free : (m : NotesByGoal) (g : GoalName) → IsNotedAs m g ready → IsUnblocked m g
ready_free m g n = (n.0, n.1, λ xs waits. let clash : ready ≡ waiting xs = sym n.2 ∙ waits in cc)

pub failed_free : (m : NotesByGoal) (g : GoalName) (f : Fault) → IsNotedAs m g (failed f) → IsUnblocked m g
failed_free m g f n = (n.0, n.1, λ xs waits. let clash : failed f ≡ waiting xs = sym n.2 ∙ waits in cc)

-- the statuses by which a goal is noted are one
one_status : (m : NotesByGoal) (g : GoalName) (s t : Status) → IsNotedAs m g s → IsNotedAs m g t → s ≡ t
one_status m g s t a b = sym a.2 ∙ ap (λ (z : Note). z.status) (one_value a.0 b.0 (sym a.1 ∙ b.1)) ∙ b.2

-- the same goals are kept
pub same_kept : (m : NotesByGoal) (u u' : Unblocked) → AreUnblocked m u → u'.unsorted.held ≡ u.unsorted.held → u'.ready.keys ≡ u.ready.keys → u'.failed.keys ≡ u.failed.keys → AreUnblocked m u'
same_kept m u u' are e r f = record { all = rw (e, r, f) are.all; ready_ones = rw r are.ready_ones; failed_ones = rw f are.failed_ones; once = rw (e, r, f) are.once }

module _ (m : NotesByGoal) (u u' : Unblocked) (are : AreUnblocked m u) (g : GoalName) where
  -- the goals in order stay noted as they are, after another was noted
  module _ (n : Note) (none : finite.get m g ≡ None) where
    stay : (P : Note → Type 0) (h : GoalName) → AreNoted P m h → AreNoted P (finite.insert m g n) h
    stay P h k = (noted_put P m g h n none).1 (inl k)

    stay_failed : (h : GoalName) → ((f : Fault) × IsNotedAs m h (failed f)) → (f : Fault) × IsNotedAs (finite.insert m g n) h (failed f)
    stay_failed h k = (k.0, stay (λ z. z.status ≡ failed k.0) h k.1)

    pub waiting_noted : ¬ IsNoWait n.status → AreUnblocked (finite.insert m g n) u
    waiting_noted waits = record {
      all = λ h.
          let put = noted_put (λ z. IsNoWait z.status) m g h n none in
          through (are.all h) (λ k. put.1 (inl k), λ k. elim (put.0 k) [ inl l ↦ l | inr p ↦ absurd (waits p.0) ]);
      ready_ones = λ h i. stay (λ z. z.status ≡ ready) h (are.ready_ones h i);
      failed_ones = λ h i. stay_failed h (are.failed_ones h i);
      once = are.once;
    }

    unsorted_new : ¬ IsAmong u g
    unsorted_new k = let note = (are.all g).0 k in let clash : None ≡ Some note.0 = sym none ∙ note.1 in cc

    pub free_noted : IsNoWait n.status → u'.unsorted.held ≡ set.insert u.unsorted.held g → u'.ready ≡ u.ready → u'.failed ≡ u.failed → AreUnblocked (finite.insert m g n) u'
    free_noted free e r f = rw (e, r, f) (record {
      all = λ h. grown (put_first (goal_put u.unsorted.held g h)) (are.all h) (noted_put (λ z. IsNoWait z.status) m g h n none) (λ p. (free, p), λ p. p.1);
      ready_ones = λ h i. stay (λ z. z.status ≡ ready) h (are.ready_ones h i);
      failed_ones = λ h i. stay_failed h (are.failed_ones h i);
      once = λ h i sorted. elim ((goal_put u.unsorted.held g h).0 i) [
        | inl there ↦ are.once h there sorted
        | inr p ↦ unsorted_new (subst (IsAmong u) p (inr sorted))
      ];
    })

  -- the goals in order stay noted as they are, after another lost its note
  left : (P : Note → Type 0) (h : GoalName) → AreNoted P m h → ¬ (h ≡ g) → AreNoted P (finite.remove m g) h
  left P h k other = (noted_gone P m g h).1 (k, other)

  pub waiting_gone : (xs : _) → IsNotedAs m g (waiting xs) → AreUnblocked (finite.remove m g) u
  waiting_gone xs noted =
      let other : (h : GoalName) → IsAmong u h → ¬ (h ≡ g) = λ h k p.
      let free = (are.all g).0 (subst (IsAmong u) p k) in
      free.2 xs (ap (λ (z : Note). z.status) (one_value free.0 noted.0 (sym free.1 ∙ noted.1)) ∙ noted.2) in
      record {
        all = λ h. let gone = noted_gone (λ z. IsNoWait z.status) m g h in (λ k. gone.1 ((are.all h).0 k, other h k), λ k. (are.all h).1 (gone.0 k).0);
        ready_ones = λ h i. left (λ z. z.status ≡ ready) h (are.ready_ones h i) (other h (inr (inl i)));
        failed_ones = λ h i. let k = are.failed_ones h i in (k.0, left (λ z. z.status ≡ failed k.0) h k.1 (other h (inr (inr i))));
        once = are.once;
      }

  taken_out : u'.unsorted.held ≡ set.remove u.unsorted.held g → (h : GoalName) → IsTrue (set.contains u'.unsorted.held h) ↔ (IsTrue (set.contains u.unsorted.held h) × ¬ (h ≡ g))
  taken_out e h = rw e (goal_taken u.unsorted.held g h)

  pub free_gone : u'.unsorted.held ≡ set.remove u.unsorted.held g → SortsOut g u.ready u'.ready → SortsOut g u.failed u'.failed → AreUnblocked (finite.remove m g) u'
  free_gone e r f = record {
    all = λ h. shrunk (gone_each (taken_out e h) (r h) (f h)) (are.all h) (noted_gone (λ z. IsNoWait z.status) m g h) (λ p. p) (λ _ p. p);
    ready_ones = λ h i. let k = (r h).0 i in left (λ z. z.status ≡ ready) h (are.ready_ones h k.0) k.1;
    failed_ones = λ h i. let k = (f h).0 i in let n = are.failed_ones h k.0 in (n.0, left (λ z. z.status ≡ failed n.0) h n.1 k.1);
    once = λ h i sorted.
        let there = (taken_out e h).0 i in
        are.once h there.0 (elim sorted [ inl k ↦ inl ((r h).0 k).0 | inr k ↦ inr ((f h).0 k).0 ]);
  }

  -- a goal was put in order, as ready or as failed
  module _ (e : u'.unsorted.held ≡ set.remove u.unsorted.held g) where
    all_sorted : IsUnblocked m g → ((h : GoalName) → IsSorted u' h ↔ (IsSorted u h ⊎ (h ≡ g))) → (h : GoalName) → IsAmong u' h ↔ IsUnblocked m h
    all_sorted free more h = moved (one_or_not h g) (taken_out e h) (more h) (are.all h) (λ p. subst (IsUnblocked m) (sym p) free)

    once_sorted : ((h : GoalName) → IsSorted u' h ↔ (IsSorted u h ⊎ (h ≡ g))) → (h : GoalName) → IsTrue (set.contains u'.unsorted.held h) → ¬ IsSorted u' h
    once_sorted more h i sorted = let there = (taken_out e h).0 i in elim ((more h).0 sorted) [ inl k ↦ are.once h there.0 k | inr p ↦ there.1 p ]

    pub ready_sorted : SortsIn g u.ready u'.ready → u'.failed ≡ u.failed → IsNotedAs m g ready → AreUnblocked m u'
    ready_sorted r f noted =
        let more : (h : GoalName) → IsSorted u' h ↔ (IsSorted u h ⊎ (h ≡ g)) = λ h. rw f (put_first (r h)) in
        record {
          all = all_sorted (ready_free m g noted) more;
          ready_ones = λ h i. elim ((r h).0 i) [ inl k ↦ are.ready_ones h k | inr p ↦ subst (λ z. IsNotedAs m z ready) (sym p) noted ];
          failed_ones = rw f are.failed_ones;
          once = once_sorted more;
        }

    pub failed_sorted : SortsIn g u.failed u'.failed → u'.ready ≡ u.ready → (c : Fault) → IsNotedAs m g (failed c) → AreUnblocked m u'
    failed_sorted f r c noted =
        let more : (h : GoalName) → IsSorted u' h ↔ (IsSorted u h ⊎ (h ≡ g)) = λ h. rw r (put_second (f h)) in
        record {
          all = all_sorted (failed_free m g c noted) more;
          ready_ones = rw r are.ready_ones;
          failed_ones = λ h i. elim ((f h).0 i) [ inl k ↦ are.failed_ones h k | inr p ↦ (c, subst (λ z. IsNotedAs m z (failed c)) (sym p) noted) ];
          once = once_sorted more;
        }

-- where all are in order, each is with the ready ones or with the failed ones
module _ (m : NotesByGoal) (u : Unblocked) (are : AreUnblocked m u) (sorted : u.unsorted.held ≡ set.empty) (g : GoalName) where
  in_order : IsUnblocked m g → IsSorted u g
  in_order free = elim ((are.all g).1 free) [
    | inl k ↦ absurd (not_both (set.contains u.unsorted.held g) (ap (λ s. set.contains s g) sorted ∙ set.contains-empty goal_cmp g) k)
    | inr k ↦ k
  ]

  pub all_ready : IsTrue (contains goal_cmp u.ready g) ↔ IsNotedAs m g ready
  all_ready = (
    are.ready_ones g,
    λ n. elim (in_order (ready_free m g n)) [
      | inl k ↦ k
      | inr k ↦ let o = are.failed_ones g k in absurd (let clash : ready ≡ failed o.0 = one_status m g ready (failed o.0) n o.1 in cc)
    ],
  )

  pub all_failed : IsTrue (contains goal_cmp u.failed g) ↔ ((f : Fault) × IsNotedAs m g (failed f))
  all_failed = (
    are.failed_ones g,
    λ n. elim (in_order (failed_free m g n.0 n.1)) [
      | inl k ↦ absurd (let clash : ready ≡ failed n.0 = one_status m g ready (failed n.0) (are.ready_ones g k) n.1 in cc)
      | inr k ↦ k
    ],
  )

-- no goals are kept, of no notes
pub none_unblocked : (u : Unblocked) → u.unsorted.held ≡ set.empty → u.ready.keys ≡ [] → u.failed.keys ≡ [] → AreUnblocked finite.empty u
none_unblocked u e r f = rw (e, r, f) (record {
  all = λ g. grind (arith, not_both, set.contains-empty goal_cmp g, finite.get-empty {X = Note} goal_cmp g);
  ready_ones = λ g i. absurd (let clash : false ≡ true = i in cc);
  failed_ones = λ g i. absurd (let clash : false ≡ true = i in cc);
  once = λ g i k. not_both (set.contains {R = goal_cmp} set.empty g) (set.contains-empty goal_cmp g) i;
})

-- the goals of an ordered set, as a list
pub in_keys : (u : BTreeSet GoalName) (g : GoalName) → In g u.keys ↔ IsTrue (contains goal_cmp u g)
in_keys u g =
    let by_keys = btree_set_contains_iff goal_total goal_antisymmetric u g in (λ i. by_keys.1 (in_contains u.keys g i), λ yes. contains_in u.keys g (by_keys.0 yes))
