-- What an undo or a rollback took away can be redone, which gives back the old state.
use Rattle.ghc_core.proofs.Words.{◌≡◌, ℕ, ◌+◌, ◌≤◌, List, [], ◌∷◌, ◌++◌, map, length, refl, sym, subst, inl, inr, arith, Some, length-append, nat_cmp_total, In, in_either, kept_limit, AreDistinct, State, Record, numbers, Shelf, query_state, Runs, NameWhatIsKnown, Entry, number_in, records_distinct, run_once, GoesWith, IsClosedUnder, IsPartedBy, with_shelved, both_distinct, come_back, split_closed, no_longer, picks_in, picks_distinct, runs_split, Change, Comes as comes, Goes as goes, Coming, all_gone, Hands, World, IsReplay, with_coming, entry_of_going, without_steps, CanChange, Changes, Command, redo, command, stepped, undone, to_redo, told_of, Obeys, does, AnswersEach}
use Rattle.std.proofs.lemmas.List.{append_assoc}
use Rattle.std.specs.FinMap as finite
use Rattle.ghc_core.specs.Returns as laws
use Rattle.ghc_core.proofs.Moving.{obeyed_answers, reachable_reached}
use Rattle.ghc_core.proofs.Reaching.{Good, reached_good}
use Rattle.ghc_core.proofs.Replayed.{Replayed, replayed}

-- each of the steps put on the shelf is there
pub on_shelf : (gone : List Record) (shelf : Shelf) → AreDistinct (numbers gone) → (r : Record) → In r gone → finite.get (with_shelved gone shelf) r.number ≡ Some r
on_shelf [] shelf d r i = absurd i
on_shelf (s ∷ gone) shelf d r (inl e) = grind (arith, finite.get-insert nat_cmp_total (with_shelved gone shelf) s.number s r.number)
on_shelf (s ∷ gone) shelf d r (inr i) =
    grind (arith, d.0, number_in gone r i, finite.get-insert nat_cmp_total (with_shelved gone shelf) s.number s r.number, on_shelf gone shelf d.1 r i)

-- what is on the shelf stays there where steps of other numbers come beside it
pub still_on_shelf : (gone : List Record) (shelf : Shelf) (r : Record) → ¬ In r.number (numbers gone) → finite.get shelf r.number ≡ Some r
    → finite.get (with_shelved gone shelf) r.number ≡ Some r
still_on_shelf [] shelf r n e = e
still_on_shelf (s ∷ gone) shelf r n e =
    let apart : ¬ (r.number ≡ s.number) = λ q. n (inl q) in
    grind (arith, apart, finite.get-insert nat_cmp_total (with_shelved gone shelf) s.number s r.number, still_on_shelf gone shelf r (λ i. n (inr i)) e)

-- steps that are on the shelf and run from here are redone one after another
pub redo_each : (hands : Hands) (rest : List Record) (x : World) (goal : State) → Runs x.opening.program x.state rest goal → ((r : Record) → In r rest → finite.get x.shelf r.number ≡ Some r)
    → AreDistinct (numbers rest) → length x.kept + length rest ≤ kept_limit → NameWhatIsKnown x.opening.query (x.kept ++ rest)
    → (u : World) × AnswersEach (λ i. ⊥) x hands (map (λ m. command (redo m)) (numbers rest)) (map stepped (numbers rest)) u hands × (u.state ≡ goal)
redo_each hands [] x goal run on d l named = (x, (refl, refl), sym run)
redo_each hands (r ∷ rest) x goal run on d l named =
    let y = with_coming Coming.Shelved r x in
    let longer : length (x.kept ++ r ∷ []) ≡ length x.kept + 1 = length-append x.kept (r ∷ []) in
    let left : (s : Record) → In s rest → finite.get y.shelf s.number ≡ Some s =
    λ s i. grind (arith, d.0, number_in rest s i, finite.get-remove nat_cmp_total x.shelf r.number s.number, on s (inr i)) in
    let next = redo_each hands rest y goal run.1 left d.1 (omega arith)
    (subst (NameWhatIsKnown x.opening.query) (sym (append_assoc x.kept (r ∷ []) rest)) named) in
    (next.0, (y, hands, obeyed_answers hands (does {change = comes Coming.Shelved r} (to_redo refl) (on r (inl refl), run.0, omega arith, named x.kept rest r refl) refl refl), next.1), next.2)

-- the steps of these numbers are redone from v on, which leaves the state of w
abbrev Redone : World → World → Hands → List ℕ → Type 0
Redone w v hands ns = (u : World) × AnswersEach (λ i. ⊥) v hands (map (λ m. command (redo m)) ns) (map stepped ns) u hands × (u.state ≡ w.state)

module _ (w : World) (good : Good w) (h : Replayed w) where
  -- steps that are closed under consequences
  module _ (D : Record → Type 0) (gone left : List Record) (parts : IsPartedBy w.kept D gone left) (shut : IsClosedUnder w.kept D) (t : State) (run : IsReplay w left t) (entry : Entry) (hands : Hands) where
    distinct : AreDistinct (numbers (left ++ gone))
    distinct = both_distinct w.opening.program w.opening.query w.kept w.state h.replay D gone left parts

    short : length left + length gone ≤ kept_limit
    short =
        let l = no_longer (left ++ gone) w.kept (records_distinct (left ++ gone) distinct)
        (λ r i. grind (arith, in_either left gone r i, picks_in w.kept left r parts.1, picks_in w.kept gone r parts.0)) in
        omega (arith, l, length-append left gone, h.few)

    back : Redone w (without_steps gone left t entry w) hands (numbers gone)
    back =
        let whole = come_back w.opening.program w.opening.query w.kept w.state h.replay D gone left parts shut good.acyclic in
        let s = runs_split w.opening.program left gone (query_state w.opening.query) w.state whole.1 in
        let same : s.0 ≡ t = run_once w.opening.program (query_state w.opening.query) left s.0 t s.1 run.1 in
        let d = picks_distinct w.kept gone parts.0 good.kept_once in
        redo_each hands gone (without_steps gone left t entry w) w.state (subst (λ z. Runs w.opening.program z gone w.state) same s.2) (on_shelf gone w.shelf d) d short whole.2

  -- a change whose reply is steps undone took these away
  redo_changed : (hands : Hands) (ns : List ℕ) (v : World) (change : Change) → CanChange w change → Changes w change v → undone ns ≡ told_of change → Redone w v hands ns
  redo_changed hands ns v (goes how gone) can (left, split, (t, run, e)) told =
      let same : ns ≡ numbers (all_gone gone) = cc in
      rw (e, same)
      (back (GoesWith w.kept gone.first) (all_gone gone) left split (split_closed w.kept good.kept_once gone.first can.0)
      t run (entry_of_going how gone.first) hands)
  redo_changed hands ns v change can e told = cc

  redo_obeyed : (hands : Hands) (ns : List ℕ) (v : World) (c : Command) → Obeys (Unit {0}) w c (undone ns) v → Redone w v hands ns
  redo_obeyed hands ns v c (does {change = change} asks can changes told) = redo_changed hands ns v change can changes told

pub undone_then_redone : laws.UndoneThenRedone
undone_then_redone w v hands c ns reach p = let r = reachable_reached reach in redo_obeyed w (reached_good r) (replayed r) hands ns v c p
