-- In a world that is reached the journal tells what is kept and what is on the shelf.
use Rattle.ghc_core.proofs.Words.{◌≡◌, List, [], ◌∷◌, ◌++◌, map, refl, sym, ap, ◌∙◌, subst, in_left, Program, Query, State, Record, numbers, query_state, Replays, Opening, Entry, took, undid, step_of, numbers_append, Keeps, IsSplitAt, with_shelved, runs_split, distinct_left, map-append, World, with_step, Opens, Change, Comes as comes, Goes as goes, Reorders as reorders, Coming, Going, CanChange, Changes, all_gone, Reaches, from_opening, by_change}
use Rattle.std.proofs.lemmas.List.{append-nil, append_assoc}
use Rattle.std.specs.FinMap as finite
use Rattle.ghc_core.proofs.Alone.{others_left}
use Rattle.ghc_core.proofs.Replayed.{Replayed, replayed}

-- the journal of the world tells what it keeps
abbrev pub Tells : World → Type 0
Tells w = Keeps w.opening w.journal w.kept w.shelf

-- the first of the steps replay
front_replays : (P : Program) (query : Query) (xs ys : List Record) (t : State) → Replays P query (xs ++ ys) t → (m : State) × Replays P query xs m
front_replays P query xs ys t run =
    let split = runs_split P xs ys (query_state query) t run.1 in (
      split.0,
      (
        ((λ r i. run.0.0 r (in_left xs ys r i)), distinct_left (numbers xs) (numbers ys) (rw numbers_append at run.0.1)),
        split.1,
        λ before behind r e x n. run.2 before (behind ++ ys) r (ap (λ l. l ++ ys) e ∙ append_assoc before (r ∷ behind) ys) x n,
      ),
    )

-- the entries of steps that were taken
abbrev taken : List Record → List Entry
taken rs = map took (map step_of rs)

-- steps that replay were taken one after another
loaded : (o : Opening) (front behind : List Record) (t : State) → Replays o.program o.query (front ++ behind) t → Keeps o (taken front) front finite.empty → Keeps o (taken (front ++ behind)) (front ++ behind) finite.empty
loaded o front [] t run k = subst (λ rs. Keeps o (taken rs) rs finite.empty) (sym (append-nil front)) k
loaded o front (r ∷ behind) t run k =
    let same : (front ++ r ∷ []) ++ behind ≡ front ++ r ∷ behind = append_assoc front (r ∷ []) behind in
    let whole : Replays o.program o.query ((front ++ r ∷ []) ++ behind) t = rw same run in
    let first = front_replays o.program o.query (front ++ r ∷ []) behind t whole in
    let next : Keeps o (taken (front ++ r ∷ [])) (front ++ r ∷ []) finite.empty = simp map-append (Keeps.step r first.0 k first.1) in
    subst (λ rs. Keeps o (taken rs) rs finite.empty) same (loaded o (front ++ r ∷ []) behind t whole next)

opened_tells : (o : Opening) (w : World) → Opens o w → Tells w
opened_tells o w opens =
    let k : Keeps w.opening (taken w.kept) w.kept finite.empty = loaded w.opening [] w.kept w.state opens.state Keeps.at_first in
    subst (λ es. Keeps w.opening es w.kept w.shelf) (ap (map took) opens.steps ∙ sym opens.journal) (subst (λ s. Keeps w.opening (taken w.kept) w.kept s) (sym opens.shelf) k)

module _ (w : World) (k : Tells w) where
  changed_tells : (change : Change) (v : World) → CanChange w change → Changes w change v → Replayed v → Tells v
  changed_tells (comes Coming.Next r) v can e h = subst Tells (sym e) (Keeps.step r (with_step r w).state k (subst Replayed e h).replay)
  changed_tells (comes Coming.Shelved r) v can e h = subst Tells (sym e) (Keeps.redo r.number r k can.0)
  changed_tells (goes Going.Alone gone) v can (left, split, (t, run, e)) h =
      let r = gone.first in
      let out = others_left w.kept r left (subst (λ others. IsSplitAt w.kept r (r ∷ others) left) can.2 split) in
      subst Tells (sym e) (subst (λ others. Keeps w.opening (w.journal ++ undid r.number ∷ []) left (with_shelved (r ∷ others) w.shelf)) (sym can.2) (Keeps.undo r.number r k (can.0, refl) out))
  changed_tells (goes Going.Together gone) v can (left, split, (t, run, e)) h = subst Tells (sym e) (Keeps.roll gone.first.number gone.first (all_gone gone) k (can.0, refl) split)
  changed_tells (reorders a) v can e h = subst Tells (sym e) (Keeps.arrange a.order k can.1)

pub reached_keeps : {w : World} → Reaches w → Tells w
reached_keeps (from_opening {o = o} {w = w} sound opens) = opened_tells o w opens
reached_keeps (by_change {w = w} {v = v} change r can changes) = changed_tells w (reached_keeps r) change v can changes (replayed (by_change change r can changes))
