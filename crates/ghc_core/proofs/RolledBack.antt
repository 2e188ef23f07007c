-- A kept step and its consequences are taken away, the last one first, and the world that is left stands.
use Rattle.ghc_core.proofs.Words.{[], ◌≡◌, ◌≢◌, ◌⊎◌, ◌↔◌, ◌+◌, ◌-◌, ◌<◌, ℕ, zero, suc, slice_get, slice_get_within, get_or_from_slice_get, drop, List, ◌∷◌, ◌++◌, refl, sym, ap, ◌∙◌, subst, inl, inr, append_assoc, Option, Some, None, IsSome, IfNone, VarName, GoalName, In, in_left, in_right, in_more, in_last, Goals, Picks, AreDistinct, State, Record, numbers, Shelf, IsTakenBack, AreTakenBack, Entry, undid, number_of, Note, NotesByGoal, AreLeft, Tries, Binds, IsBoundIn, with_shelved, by_option, not_both, alone, picks_has, apart_behind, picks_all, picks_within, alone_left, rest_left, gone_kept, gone_distinct, World, IsReplay, Goes as goes, Change, Going, Gone, all_gone, by_change, IsStanding, AreExactIn, CanChange, Changes, entry_of_going, Consumed, AreCarriedBack, AreAllCarriedBack, all_told_back, TellStreams, arith}
use Rattle.std.proofs.lemmas.List.{drop_more}
use Rattle.std.specs.FinMap as finite
use Rattle.ghc_core.proofs.Exactness.{unnoted, consumed_gone, back_exact, back_left}
use Rattle.ghc_core.proofs.Alone.{goes_alone}
use Rattle.ghc_core.proofs.Preparing.{same_world}
use Rattle.ghc_core.proofs.Reaching.{reached_good}
use Rattle.ghc_core.proofs.Standing.{standing_replay}
use Rattle.ghc_core.proofs.StreamNames.{stands_back}
use Rattle.ghc_core.proofs.TakenAway.{taken_away}

-- two changes, one after the other: a note stays just where it stays in both
left_twice : (H K : Goals) (T U V : VarName → Type 0) (a b c : NotesByGoal) → AreLeft H T a b → AreLeft K U b c
    → ((g : GoalName) (note : Note) → finite.get a g ≡ Some note → finite.get K g ≢ None → finite.get H g ≢ None)
    → ((x : VarName) → V x → U x ⊎ T x) → ((x : VarName) → T x → V x) → ((x : VarName) → U x → V x) → AreLeft K V a c
left_twice H K T U V a b c first second stays parts of_first of_second g note = grind (arith, first g note, second g note, stays g note)

bound_parts : (r : Record) (rs : List Record) (x : VarName) → IsBoundIn (r ∷ rs) x → Binds r x ⊎ IsBoundIn rs x
bound_parts r rs x (c, inl same, b) = inl (rw same at b)
bound_parts r rs x (c, inr i, b) = inr (c, i, b)

-- a goal without a note has none after steps were taken back
pub none_again : (gone : List Record) (old new : Tries) → AreAllCarriedBack gone old new → (g : GoalName) → finite.get old.notes g ≡ None → finite.get new.notes g ≡ None
none_again [] old new c g e = ap (λ (t : Tries). finite.get t.notes g) c ∙ e
none_again (r ∷ rs) old new c g e =
    by_option (finite.get new.notes g) (λ n. n) (λ n there. absurd (not_both ((c.2.notes g n).0 there).0 (none_again rs old c.0 c.1 g e)))

-- records that are taken out one after another
pub struck_none : (kept : List Record) → Picks (λ s. ¬ In s []) kept kept
struck_none kept = picks_all kept (λ s i. i)

struck_more : (kept some new gone more : List Record) (r : Record) → ((s : Record) → In s more ↔ (In s gone ⊎ (s ≡ r))) → Picks (λ s. ¬ In s gone) kept some
    → Picks (λ s. ¬ (s ≡ r)) some new → Picks (λ s. ¬ In s more) kept new
struck_more kept some new gone more r parts =
    picks_within kept some new (λ s p q i. grind (arith, parts s)) (λ s n i. grind (arith, parts s)) (λ s n i. grind (arith, parts s))

still_there : (kept some gone : List Record) (r : Record) → In r kept → ¬ In r gone → Picks (λ s. ¬ In s gone) kept some → In r some
still_there kept some gone r there fresh before = elim (picks_has kept some r before there) [ inl i ↦ i | inr n ↦ absurd (n fresh) ]

-- and the first of them last
pub struck_first : (kept some new gone : List Record) (r : Record) → AreDistinct (r ∷ gone) → In r kept → Picks (λ s. ¬ In s gone) kept some → (In r some → Picks (λ s. ¬ (s ≡ r)) some new) → Picks (λ s. ¬ In s (r ∷ gone)) kept new
struck_first kept some new gone r once there before next =
    struck_more kept some new gone (r ∷ gone) r (λ s. grind arith) before (next (still_there kept some gone r there once.0 before))

-- and so the one before those that are gone from the end of a list
distinct_drop : {X : Type 0} (xs : List X) (i : ℕ) → AreDistinct xs → AreDistinct (drop i xs)
distinct_drop xs zero d = d
distinct_drop [] (suc i) d = d
distinct_drop (x ∷ xs) (suc i) d = distinct_drop xs i d.1

pub struck_back : (xs kept some new : List Record) (p : ℕ) (r : Record) → 0 < p → slice_get xs (p - 1) ≡ Some r → AreDistinct xs → In r kept → Picks (λ s. ¬ In s (drop p xs)) kept some → (In r some → Picks (λ s. ¬ (s ≡ r)) some new)
    → Picks (λ s. ¬ In s (drop (p - 1) xs)) kept new
struck_back xs kept some new p r some_left at distinct there before next =
    let on : (p - 1) + 1 ≡ p = omega (arith, some_left) in
    let is : drop (p - 1) xs ≡ r ∷ drop p xs = drop_more xs (p - 1) r (slice_get_within xs (p - 1) r at) ∙ ap (λ z. z ∷ drop ((p - 1) + 1) xs) (get_or_from_slice_get xs (p - 1) r r at) ∙ ap (λ k. r ∷ drop k xs) on in
    subst (λ l. Picks (λ s. ¬ In s l) kept new) (sym is) (struck_first kept some new (drop p xs) r (subst AreDistinct is (distinct_drop xs (p - 1) distinct)) there before next)

-- What is known where later steps were taken back, which leaves t: where the steps left are kept, a world with it stands, and notes and marks are exact.
record Undone (w : World) (back : List Record) (t : State) (old new : Tries) : Type 0 where
  left : List Record
  shelf : Shelf
  journal : List Entry
  standing : IsStanding (record w { state = t; kept = left; shelf = shelf; journal = journal })
  kept : Picks (λ s. ¬ In s back) w.kept left
  exact : AreExactIn (record w { state = t }) new.notes new.untried
  notes : AreLeft t.goals (IsBoundIn back) old.notes new.notes
  streams : (names : List GoalName) → TellStreams w.opening.query w.state.goals names → TellStreams w.opening.query t.goals (all_told_back back names)

module _ (w : World) (stands : IsStanding w) (how : Going) (gone : Gone) (can : CanChange w (goes how gone)) where
  abbrev all : List Record
  all = all_gone gone

  distinct : AreDistinct (numbers w.kept)
  distinct = (reached_good stands).kept_once

  of_gone : (r : Record) → In r all → In r w.kept
  of_gone = gone_kept w.kept distinct gone.first can.0 all can.1.0 can.1.1

  module _ (old : Tries) (exact : AreExactIn w old.notes old.untried) where
    at_first : (t : State) (new : Tries) → t ≡ w.state → new ≡ old → Undone w [] t old new
    at_first t new e f = rw (e, f) (record {
      left = w.kept;
      shelf = w.shelf;
      journal = w.journal;
      standing = stands;
      kept = struck_none w.kept;
      exact = exact;
      notes = λ g note. grind (arith, exact.noted g note);
      streams = λ names tell. tell;
    })

    -- one step more is taken back
    module _ (front rest : List Record) (r : Record) (ends : all ≡ front ++ r ∷ rest) (m t : State) (mid new : Tries)
        (before : Undone w rest m old mid) (taken : IsTakenBack r m t) (carried : AreCarriedBack r mid new) where
      abbrev v : World
      v = record w { state = m; kept = before.left; shelf = before.shelf; journal = before.journal }

      here : In r all
      here = subst (In r) (sym ends) (in_right front (r ∷ rest) r (inl refl))

      kept_r : In r v.kept
      kept_r =
          let once = gone_distinct w.kept distinct gone.first can.0 all can.1.0 can.1.1 in
          still_there w.kept v.kept rest r (of_gone r here) (apart_behind front rest r (subst AreDistinct ends once)) before.kept

      others : (some : List Record) × Picks (λ s. ¬ (s ≡ r)) v.kept some
      others = let p = alone v.kept (reached_good before.standing).kept_once r kept_r in (p.0, p.1.1)

      abbrev alone_it : Change
      alone_it = goes Going.Alone (record { first = r; others = [] })

      abbrev after : World
      after = record v { state = t; kept = others.0; shelf = finite.insert v.shelf r.number r; journal = v.journal ++ undid r.number ∷ [] }

      can_go : CanChange v alone_it
      can_go =
          let none = alone_left w.kept distinct gone.first can.0 all can.1.0 can.1.1 front rest v.kept r ends before.kept in
          (kept_r, goes_alone v.kept (reached_good before.standing).kept_once r kept_r none, refl)

      stands_after : IsStanding after
      stands_after = by_change alone_it before.standing can_go (taken_away v before.standing r others.0 t _ _ can_go others.1 taken refl refl)

      stayed : (g : GoalName) (note : Note) → finite.get old.notes g ≡ Some note → finite.get t.goals g ≢ None → finite.get m.goals g ≢ None
      stayed g note noted = grind (arith, exact.noted g note noted, taken.goals.others g, taken.goals.unmade g, consumed_gone w stands r (of_gone r here) g)

      one_more : Undone w (r ∷ rest) t old new
      one_more = record {
        left = others.0;
        shelf = after.shelf;
        journal = after.journal;
        standing = stands_after;
        kept = struck_more w.kept v.kept others.0 rest (r ∷ rest) r (λ s. grind arith) before.kept others.1;
        exact = back_exact v before.standing r kept_r t taken mid new before.exact carried;
        notes = left_twice m.goals t.goals (IsBoundIn rest) (Binds r) (IsBoundIn (r ∷ rest)) old.notes mid.notes new.notes before.notes
            (back_left v before.standing r kept_r t taken mid new before.exact carried)
            stayed (bound_parts r rest) (λ x b. (b.0, inr b.1, b.2)) (λ x b. (r, inl refl, b));
        streams = λ names tell. stands_back v before.standing r kept_r after stands_after refl taken _ (before.streams names tell);
      }

    -- all later steps are taken back
    each : (front rest : List Record) (t : State) (new : Tries) → all ≡ front ++ rest → AreTakenBack rest w.state t → AreAllCarriedBack rest old new
        → Undone w rest t old new
    each front [] t new e p q = at_first t new p q
    each front (r ∷ rest) t new e p q =
        one_more front rest r e p.0 t q.0 new (each (front ++ r ∷ []) rest p.0 q.0 (e ∙ sym (append_assoc front (r ∷ []) rest)) p.1 q.1) p.2 q.2

-- The goals that the steps of a rollback consumed have no note.
pub unnoted_roll : (w : World) → IsStanding w → (notes : NotesByGoal) (untried : _) → AreExactIn w notes untried → (how : Going) (gone : Gone) → CanChange w (goes how gone)
    → (r : Record) → In r (all_gone gone) → (g : GoalName) → Consumed r g → finite.get notes g ≡ None
unnoted_roll w s notes untried exact how gone can r i g e = unnoted exact g (consumed_gone w s r (of_gone w s how gone can r i) g e)

-- What is known where the steps gone were taken away.
pub record RolledAway (w : World) (how : Going) (gone : Gone) (old new : Tries) (v : World) : Type 0 where
  pub changes : Changes w (goes how gone) v
  pub standing : IsStanding v
  pub exact : AreExactIn v new.notes new.untried
  pub notes : AreLeft v.state.goals (IsBoundIn (all_gone gone)) old.notes new.notes
  pub streams : (names : List GoalName) → TellStreams w.opening.query w.state.goals names → TellStreams w.opening.query v.state.goals (all_told_back (all_gone gone) names)

-- A step was taken back, alone or with its consequences, put on the shelf, struck from the record, and entered: that is how it goes.
pub rolled_away : (w : World) → IsStanding w → (how : Going) (gone : Gone) → CanChange w (goes how gone) → (old new : Tries) → AreExactIn w old.notes old.untried → (t : State)
    → AreTakenBack (all_gone gone) w.state t → AreAllCarriedBack (all_gone gone) old new → (some : List Record) (shelf : Shelf) (es : List Entry) → shelf ≡ with_shelved (all_gone gone) w.shelf
    → Picks (λ s. ¬ In s (all_gone gone)) w.kept some → es ≡ w.journal ++ entry_of_going how gone.first ∷ []
    → RolledAway w how gone old new (record w { state = t; kept = some; shelf = shelf; journal = es })
rolled_away w s how gone can old new exact t p q some shelf es put picked told =
    let all : Undone w (all_gone gone) t old new = each w s how gone can old exact [] (all_gone gone) t new refl p q in
    let only : (rs : List Record) → Picks (λ s. ¬ In s (all_gone gone)) w.kept rs → rs ≡ can.1.0 =
    rest_left w.kept (distinct w s how gone can) gone.first can.0 (all_gone gone) can.1.0 can.1.1 in
    let replay : IsReplay w can.1.0 t = rw (only all.left all.kept) at (standing_replay _ all.standing) in
    let changes : Changes w (goes how gone) (record w { state = t; kept = some; shelf = shelf; journal = es }) =
    (can.1.0, can.1.1, (t, replay, same_world w.opening w.next refl (only some picked) put told)) in
    record { changes = changes; standing = by_change (goes how gone) s can changes; exact = all.exact; notes = all.notes; streams = all.streams }

-- where a record of the number is kept, one is found
pub found_there : {X : Type 0} (o : Option X) (rs : List Record) (n : ℕ) → In n (numbers rs) → IfNone o ((r : Record) → In r rs → r.number ≢ n) → IsSome o
found_there (Some x) rs n i none = refl
found_there None rs n i none = let at = number_of rs n i in absurd (none at.0 at.1 at.2)
