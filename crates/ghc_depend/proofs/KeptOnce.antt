-- A journal that takes no number twice tells one kept list and one shelf.
use Rattle.ghc_depend.proofs.Words.{◌≡◌, ◌≢◌, ℕ, ◌⊎◌, true, List, [], ◌∷◌, ◌++◌, refl, sym, ap, ◌∙◌, subst, subst₂, inl, inr, Some, None, append-nil, append_assoc, Option, eq_by_cmp, nat_cmp, nat_cmp_total, tied_itself, same_from_push, GoalName, Goal, In, IsAcyclic, value_at, in_left, in_right, in_more, Program, Query, IsProgram, IsQuery, Act, Asked as asking, asks_once, Effect, Goals, effect_once, AreDistinct, State, Record, numbers, Shelf, after, IsThere, HasStepEffect, Fires, query_state, Runs, Replays, Opening, Entry, took, undid, rolled, redid, reordered, step_of, picks_once, numbers_append, run_once, replay_well, IsKeptAs, GoesWith, IsInOrder, with_shelved, IsWithout, IsSplitAt, taken_numbers, Keeps, KeepsIsOne, tells_apart, nat_cmp-IsAntisymmetric, arith}
use Rattle.std.specs.FinMap as finite
use Rattle.ghc_depend.proofs.Finding.{same_value}
use Rattle.ghc_depend.proofs.Once.{same_records}
use Rattle.ghc_depend.proofs.Picking.{never_nothing, distinct_left, distinct_split, picks_in}

pub taken_append : (es fs : List Entry) → taken_numbers (es ++ fs) ≡ taken_numbers es ++ taken_numbers fs
taken_append [] fs = refl
taken_append (took s ∷ es) fs = ap (λ ns. s.number ∷ ns) (taken_append es fs)
taken_append (undid n ∷ es) fs = taken_append es fs
taken_append (rolled n ∷ es) fs = taken_append es fs
taken_append (redid n ∷ es) fs = taken_append es fs
taken_append (reordered order ∷ es) fs = taken_append es fs

-- an entry that takes no step takes no number
pub taken_same : (es : List Entry) (e : Entry) → taken_numbers (e ∷ []) ≡ [] → taken_numbers (es ++ e ∷ []) ≡ taken_numbers es
taken_same es e p = taken_append es (e ∷ []) ∙ ap (λ ns. taken_numbers es ++ ns) p ∙ append-nil (taken_numbers es)

distinct_front : (es : List Entry) (e : Entry) → AreDistinct (taken_numbers (es ++ e ∷ [])) → AreDistinct (taken_numbers es)
distinct_front es e d = distinct_left (taken_numbers es) (taken_numbers (e ∷ [])) (subst AreDistinct (taken_append es (e ∷ [])) d)

-- the shelf
pub same_number : (m n : ℕ) → eq_by_cmp nat_cmp m n ≡ true → m ≡ n
same_number = tells_apart nat_cmp-IsAntisymmetric

pub shelved : (gone : List Record) (shelf : Shelf) (n : ℕ) (r : Record) → finite.get (with_shelved gone shelf) n ≡ Some r → (In r gone × (r.number ≡ n)) ⊎ (finite.get shelf n ≡ Some r)
shelved [] shelf n r e = inr e
shelved (s ∷ gone) shelf n r e =
    grind (arith, finite.get-insert nat_cmp_total (with_shelved gone shelf) s.number s n, same_number n s.number, shelved gone shelf n r)

pub unshelved : (shelf : Shelf) (n m : ℕ) (r : Record) → finite.get (finite.remove shelf n) m ≡ Some r → (finite.get shelf m ≡ Some r) × (m ≢ n)
unshelved shelf n m r e = grind (arith, tied_itself, nat_cmp_total, finite.get-remove)

-- a number has one kept record, whose number was taken, and none that is shelved
record Told (ns : List ℕ) (kept : List Record) (shelf : Shelf) : Type 0 where
  pub one : (r s : Record) → In r kept → In s kept → r.number ≡ s.number → r ≡ s
  pub taken : (r : Record) → In r kept → In r.number ns
  pub away : (n : ℕ) (r : Record) → finite.get shelf n ≡ Some r → (r.number ≡ n) × In n ns × ((s : Record) → In s kept → ¬ (s.number ≡ n))

more : {ns ms : List ℕ} {kept : List Record} {shelf : Shelf} → ((n : ℕ) → In n ns → In n ms) → Told ns kept shelf → Told ms kept shelf
more f h = record { one = h.one; taken = λ r i. f r.number (h.taken r i); away = λ n r e. let a = h.away n r e in (a.0, f n a.1, a.2) }

part : {ns : List ℕ} {kept new : List Record} {shelf : Shelf} → ((r : Record) → In r new → In r kept) → Told ns kept shelf → Told ns new shelf
part f h = record {
  one = λ r s i j e. h.one r s (f r i) (f s j) e;
  taken = λ r i. h.taken r (f r i);
  away = λ n r e. let a = h.away n r e in (a.0, a.1, λ s i. a.2 s (f s i));
}

pushed : {ns : List ℕ} {kept : List Record} {shelf : Shelf} (r : Record) → Told ns kept shelf → In r.number ns → ((s : Record) → In s kept → ¬ (s.number ≡ r.number))
    → ((s : Record) → ¬ (finite.get shelf r.number ≡ Some s)) → Told ns (kept ++ r ∷ []) shelf
pushed {ns} {kept} {shelf} r h i new free = record {
  one = λ s u j k e. grind (arith, in_more kept r s j, in_more kept r u k, h.one s u, new s, new u);
  taken = λ s j. elim (in_more kept r s j) [ inl a ↦ h.taken s a | inr f ↦ subst (λ (x : Record). In x.number ns) (sym f) i ];
  away = λ n s e. let a = h.away n s e in (
    a.0,
    a.1,
    λ u j same. grind (arith, in_more kept r u j, a.2 u, free s),
  );
}

-- steps that are taken away go to the shelf
parted : {ns : List ℕ} {kept left : List Record} {shelf : Shelf} (gone : List Record) → Told ns kept shelf → ((r : Record) → In r gone → In r kept) → ((r : Record) → In r left → In r kept)
    → ((r s : Record) → In r gone → In s left → ¬ (s ≡ r)) → Told ns left (with_shelved gone shelf)
parted {ns} {kept} {left} {shelf} gone h of_gone of_left apart = record {
  one = λ r s i j e. h.one r s (of_left r i) (of_left s j) e;
  taken = λ r i. h.taken r (of_left r i);
  away = λ n r e. elim (shelved gone shelf n r e) [
    | inl g ↦ (g.1, subst (λ m. In m ns) g.1 (h.taken r (of_gone r g.0)), λ s i same. apart r s g.0 i (h.one s r (of_left s i) (of_gone r g.0) (same ∙ sym g.1)))
    | inr q ↦ let a = h.away n r q in (a.0, a.1, λ s i. a.2 s (of_left s i))
  ];
}

unshelve : {ns : List ℕ} {kept : List Record} {shelf : Shelf} (n : ℕ) (r : Record) → Told ns kept shelf → finite.get shelf n ≡ Some r → Told ns (kept ++ r ∷ []) (finite.remove shelf n)
unshelve {ns} {kept} {shelf} n r h e =
    let a = h.away n r e in
    let less : Told ns kept (finite.remove shelf n) = record { one = h.one; taken = h.taken; away = λ m s f. h.away m s (unshelved shelf n m s f).0 } in
    pushed r less (subst (λ m. In m ns) (sym a.0) a.1) (λ s i same. a.2 s i (same ∙ a.0)) (λ s f. (unshelved shelf n r.number s f).1 a.0)

told : {o : Opening} {es : List Entry} {kept : List Record} {shelf : Shelf} → Keeps o es kept shelf → AreDistinct (taken_numbers es) → Told (taken_numbers es) kept shelf
told Keeps.at_first d = record {
  one = λ r s i j e. absurd i;
  taken = λ r i. absurd i;
  away = λ n r e. absurd (let clash : None ≡ Some r = sym (finite.get-empty nat_cmp n) ∙ e in cc);
}
told (Keeps.step {es = es} {kept = kept} {shelf = shelf} r t k run) d =
    let split = taken_append es (took (step_of r) ∷ []) in
    let all : AreDistinct (taken_numbers es ++ r.number ∷ []) = subst AreDistinct split d in
    let h = told k (distinct_left (taken_numbers es) (r.number ∷ []) all) in
    let new = distinct_split (taken_numbers es) r.number [] all in
    subst (λ ns. Told ns (kept ++ r ∷ []) shelf) (sym split)
    (pushed r (more (λ n i. in_left (taken_numbers es) (r.number ∷ []) n i) h) (in_right (taken_numbers es) (r.number ∷ []) r.number (inl refl))
    (λ s i same. new (subst (λ n. In n (taken_numbers es)) same (h.taken s i))) (λ s e. new (h.away r.number s e).1))
told (Keeps.undo {es = es} {kept = kept} {left = left} {shelf = shelf} n r k i out) d =
    subst (λ ns. Told ns left (with_shelved (r ∷ []) shelf)) (sym (taken_same es (undid n) refl))
    (parted (r ∷ []) (told k (distinct_front es (undid n) d)) (λ s j. elim j [ inl e ↦ subst (λ z. In z kept) (sym e) i.0 | inr a ↦ absurd a ]) (λ s j. (picks_in kept left s out j).0)
    (λ s u j l same. elim j [ inl e ↦ (picks_in kept left u out l).1 (same ∙ e) | inr a ↦ a ]))
told (Keeps.roll {es = es} {kept = kept} {left = left} {shelf = shelf} n r gone k i split) d =
    subst (λ ns. Told ns left (with_shelved gone shelf)) (sym (taken_same es (rolled n) refl))
    (parted gone (told k (distinct_front es (rolled n) d)) (λ s j. (picks_in kept gone s split.0 j).0) (λ s j. (picks_in kept left s split.1 j).0)
    (λ s u j l same. (picks_in kept left u split.1 l).1 (subst (GoesWith kept r) (sym same) (picks_in kept gone s split.0 j).1)))
told (Keeps.redo {es = es} {kept = kept} {shelf = shelf} n r k e) d =
    subst (λ ns. Told ns (kept ++ r ∷ []) (finite.remove shelf n)) (sym (taken_same es (redid n) refl)) (unshelve n r (told k (distinct_front es (redid n) d)) e)
told (Keeps.arrange {es = es} {kept = kept} {new = new} {shelf = shelf} order k o) d =
    subst (λ ns. Told ns new shelf) (sym (taken_same es (reordered order) refl)) (part (λ r i. (o.1 r).0 i) (told k (distinct_front es (reordered order) d)))

-- how a journal with a last entry came to tell what it does
abbrev Came : Opening → List Entry → Entry → List Record → Shelf → Type 0
Came o es (took s) kept shelf = (old : List Record) × (r : Record) × (t : State) × Keeps o es old shelf × Replays o.program o.query (old ++ r ∷ []) t × (step_of r ≡ s) × (kept ≡ old ++ r ∷ [])
Came o es (undid n) kept shelf = (old : List Record) × (before : Shelf) × (r : Record) × Keeps o es old before × IsKeptAs old n r × IsWithout old r kept × (shelf ≡ with_shelved (r ∷ []) before)
Came o es (rolled n) kept shelf =
    (old : List Record) × (before : Shelf) × (r : Record) × (gone : List Record) × Keeps o es old before × IsKeptAs old n r × IsSplitAt old r gone kept × (shelf ≡ with_shelved gone before)
Came o es (redid n) kept shelf = (old : List Record) × (before : Shelf) × (r : Record) × Keeps o es old before × (finite.get before n ≡ Some r) × (kept ≡ old ++ r ∷ []) × (shelf ≡ finite.remove before n)
Came o es (reordered order) kept shelf = (old : List Record) × Keeps o es old shelf × IsInOrder old order kept

came : {o : Opening} {fs : List Entry} {kept : List Record} {shelf : Shelf} → Keeps o fs kept shelf → (es : List Entry) (e : Entry) → fs ≡ es ++ e ∷ [] → Came o es e kept shelf
came Keeps.at_first es e p = absurd (never_nothing es e (sym p))
came {o} (Keeps.step {es = fs} {kept = kept} {shelf = shelf} r t k run) es e p =
    let q = same_from_push fs es (took (step_of r)) e p in
    subst₂ (λ js j. Came o js j (kept ++ r ∷ []) shelf) q.0 q.1 (kept, r, t, k, run, refl, refl)
came {o} (Keeps.undo {es = fs} {kept = kept} {left = left} {shelf = shelf} n r k i out) es e p =
    let q = same_from_push fs es (undid n) e p in
    subst₂ (λ js j. Came o js j left (with_shelved (r ∷ []) shelf)) q.0 q.1 (kept, shelf, r, k, i, out, refl)
came {o} (Keeps.roll {es = fs} {kept = kept} {left = left} {shelf = shelf} n r gone k i split) es e p =
    let q = same_from_push fs es (rolled n) e p in
    subst₂ (λ js j. Came o js j left (with_shelved gone shelf)) q.0 q.1 (kept, shelf, r, gone, k, i, split, refl)
came {o} (Keeps.redo {es = fs} {kept = kept} {shelf = shelf} n r k i) es e p =
    let q = same_from_push fs es (redid n) e p in
    subst₂ (λ js j. Came o js j (kept ++ r ∷ []) (finite.remove shelf n)) q.0 q.1 (kept, shelf, r, k, i, refl, refl)
came {o} (Keeps.arrange {es = fs} {kept = kept} {new = new} {shelf = shelf} order k i) es e p =
    let q = same_from_push fs es (reordered order) e p in
    subst₂ (λ js j. Came o js j new shelf) q.0 q.1 (kept, k, i)

nothing_kept : {o : Opening} {fs : List Entry} {kept : List Record} {shelf : Shelf} → Keeps o fs kept shelf → fs ≡ [] → ([] ≡ kept) × (finite.empty ≡ shelf)
nothing_kept Keeps.at_first p = (refl, refl)
nothing_kept (Keeps.step {es = fs} r t k run) p = absurd (never_nothing fs (took (step_of r)) p)
nothing_kept (Keeps.undo {es = fs} n r k i out) p = absurd (never_nothing fs (undid n) p)
nothing_kept (Keeps.roll {es = fs} n r gone k i split) p = absurd (never_nothing fs (rolled n) p)
nothing_kept (Keeps.redo {es = fs} n r k i) p = absurd (never_nothing fs (redid n) p)
nothing_kept (Keeps.arrange {es = fs} order k i) p = absurd (never_nothing fs (reordered order) p)

-- what a step consumes is determined, and so is its effect
there_once : (m : Goals) (g : Option GoalName) (c d : Option Goal) → IsThere m g c → IsThere m g d → c ≡ d
there_once m None c d p q = p ∙ sym q
there_once m (Some g) c d p q = p.1 ∙ ap Some (same_value p.2 q.2) ∙ sym q.1

step_effect_once : (P : Program) (s : State) (consumed : Option Goal) (a : Act) (n : ℕ) (e f : Effect) → IsAcyclic (value_at s.store)
    → HasStepEffect P consumed a n (value_at s.store) e → HasStepEffect P consumed a n (value_at s.store) f → e ≡ f
step_effect_once P s None (asking gs) n e f acyclic p q = asks_once P gs n e f p q
step_effect_once P s None a n e f acyclic p q = absurd p
step_effect_once P s (Some b) a n e f acyclic p q = effect_once P b a n (value_at s.store) e f acyclic p q

-- In a state with an acyclic store a step has one record.
pub fires_once : (P : Program) (s : State) (r q : Record) → IsAcyclic (value_at s.store) → step_of r ≡ step_of q → Fires P s r → Fires P s q → r ≡ q
fires_once P s r q acyclic e f g =
    let number : r.number ≡ q.number = ap (λ x. x.number) e in
    let goal : r.goal ≡ q.goal = ap (λ x. x.goal) e in
    let act : r.act ≡ q.act = ap (λ x. x.act) e in
    let consumed : r.consumed ≡ q.consumed = there_once s.goals q.goal r.consumed q.consumed (subst (λ z. IsThere s.goals z r.consumed) goal f.0) g.0 in
    let moved : HasStepEffect P q.consumed q.act q.number (value_at s.store) r.effect =
    subst (λ c. HasStepEffect P c q.act q.number (value_at s.store) r.effect) consumed
    (subst₂ (λ a n. HasStepEffect P r.consumed a n (value_at s.store) r.effect) act number f.1) in
    let effect : r.effect ≡ q.effect = step_effect_once P s q.consumed q.act q.number r.effect q.effect acyclic moved g.1 in
    λ i. record { number = number i; goal = goal i; consumed = consumed i; act = act i; effect = effect i }

pub runs_split : (P : Program) (xs ys : List Record) (s t : State) → Runs P s (xs ++ ys) t → (m : State) × Runs P s xs m × Runs P m ys t
runs_split P [] ys s t run = (s, refl, run)
runs_split P (x ∷ xs) ys s t run = let rest = runs_split P xs ys (after s x) t run.1 in (rest.0, (run.0, rest.1), rest.2)

module _ (P : Program) (query : Query) (accepted : IsProgram P) (asked : IsQuery P query) where
  -- in front of the last step the store is acyclic
  front : (kept : List Record) (r : Record) (t : State) → Replays P query (kept ++ r ∷ []) t → (m : State) × Replays P query kept m × Fires P m r × IsAcyclic (value_at m.store)
  front kept r t run =
      let split = runs_split P kept (r ∷ []) (query_state query) t run.1 in
      let replay : Replays P query kept split.0 = (
        ((λ s i. run.0.0 s (in_left kept (r ∷ []) s i)), distinct_left (numbers kept) (r.number ∷ []) (subst AreDistinct (numbers_append kept (r ∷ [])) run.0.1)),
        split.1,
        λ before behind q e x n. run.2 before (behind ++ r ∷ []) q (ap (λ l. l ++ r ∷ []) e ∙ append_assoc before (q ∷ behind) (r ∷ [])) x n,
      ) in
      (split.0, replay, split.2.0, (replay_well P query kept split.0 accepted asked replay).acyclic)

  -- the same step after the same steps has one record
  pub step_once : (kept : List Record) (r q : Record) (t u : State) → Replays P query (kept ++ r ∷ []) t → Replays P query (kept ++ q ∷ []) u → step_of r ≡ step_of q → r ≡ q
  step_once kept r q t u run walk e =
      let f = front kept r t run in
      let g = front kept q u walk in
      let same : g.0 ≡ f.0 = run_once P (query_state query) kept g.0 f.0 g.1.1 f.1.1 in
      fires_once P f.0 r q f.3 e f.2 (subst (λ z. Fires P z q) same g.2)

module _ (o : Opening) (accepted : IsProgram o.program) (asked : IsQuery o.program o.query) where
  once : {es : List Entry} {kept : List Record} {shelf : Shelf} → Keeps o es kept shelf → AreDistinct (taken_numbers es) → (other : List Record) (rest : Shelf) → Keeps o es other rest → (kept ≡ other) × (shelf ≡ rest)
  once Keeps.at_first d other rest l = nothing_kept l refl
  once (Keeps.step {es = es} {kept = kept} r t k run) d other rest l =
      let c = came l es (took (step_of r)) refl in
      let b = once k (distinct_front es (took (step_of r)) d) c.0 rest c.3 in
      let same : r ≡ c.1 = step_once o.program o.query accepted asked kept r c.1 t c.2 run (subst (λ z. Replays o.program o.query (z ++ c.1 ∷ []) c.2) (sym b.0) c.4) (sym c.5) in
      ((λ i. b.0 i ++ same i ∷ []) ∙ sym c.6, b.1)
  once (Keeps.undo {es = es} {kept = kept} {left = left} n r k i out) d other rest l =
      let c = came l es (undid n) refl in
      let front = distinct_front es (undid n) d in
      let b = once k front c.0 c.1 c.3 in
      let same : r ≡ c.2 = (told k front).one r c.2 i.0 (subst (In c.2) (sym b.0) c.4.0) (i.1 ∙ sym c.4.1) in
      (picks_once kept left other out (subst₂ (λ z y. IsWithout z y other) (sym b.0) (sym same) c.5), (λ j. with_shelved (same j ∷ []) (b.1 j)) ∙ sym c.6)
  once (Keeps.roll {es = es} {kept = kept} {left = left} n r gone k i split) d other rest l =
      let c = came l es (rolled n) refl in
      let front = distinct_front es (rolled n) d in
      let b = once k front c.0 c.1 c.4 in
      let same : r ≡ c.2 = (told k front).one r c.2 i.0 (subst (In c.2) (sym b.0) c.5.0) (i.1 ∙ sym c.5.1) in
      let there : IsSplitAt kept r c.3 other = subst₂ (λ z y. IsSplitAt z y c.3 other) (sym b.0) (sym same) c.6 in
      let away : gone ≡ c.3 = picks_once kept gone c.3 split.0 there.0 in
      (picks_once kept left other split.1 there.1, (λ j. with_shelved (away j) (b.1 j)) ∙ sym c.7)
  once (Keeps.redo {es = es} {kept = kept} {shelf = shelf} n r k e) d other rest l =
      let c = came l es (redid n) refl in
      let b = once k (distinct_front es (redid n) d) c.0 c.1 c.3 in
      let same : r ≡ c.2 = same_value e (subst (λ z. finite.get z n ≡ Some c.2) (sym b.1) c.4) in
      ((λ i. b.0 i ++ same i ∷ []) ∙ sym c.5, (λ i. finite.remove (b.1 i) n) ∙ sym c.6)
  once (Keeps.arrange {es = es} {kept = kept} {new = new} {shelf = shelf} order k i) d other rest l =
      let c = came l es (reordered order) refl in
      let front = distinct_front es (reordered order) d in
      let b = once k front c.0 rest c.1 in
      let there : IsInOrder kept order other = subst (λ z. IsInOrder z order other) (sym b.0) c.2 in
      (same_records kept (told k front).one new other (i.0 ∙ sym there.0) (λ r. (i.1 r).0) (λ r. (there.1 r).0), b.1)

pub keeps_once : KeepsIsOne
keeps_once o es kept other shelf rest accepted asked d k l = once o accepted asked k d other rest l
