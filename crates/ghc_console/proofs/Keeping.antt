-- The steps outside of a slice are rolled back, one after another.
use Rattle.ghc_console.proofs.CitedWords.{◌≡◌, ◌↔◌, ℕ, List, [], ◌∷◌, ◌++◌, take, drop, refl, sym, ap, subst, ◌∙◌, append-nil, append_assoc, inl, inr, In, AreDistinct, Record, numbers, record_once, World, opening_stays, refusal, Option, Some, None, Result, Ok, Err, OnOk, OnErr, is_ok, true}
use Rattle.std.specs.Prelude.{MatchOption}
use Rattle.std.proofs.lemmas.List.{take-append-drop}
use Rattle.ghc_term.specs.declared.fault.Fault.TheVariants as fault
use Rattle.ghc_term.specs.declared.goal_name.GoalName.{GoalName}
use Rattle.ghc_core.specs.declared.changes.Change.TheVariants.{Goes as goes}
use Rattle.ghc_core.specs.declared.changes.Going.{Going}
use Rattle.ghc_records.specs.Orders.{Picks, nothing, take as taken, leave}
use Rattle.ghc_records.proofs.OrderLemmas.{number_in, number_of, picks_once}
use Rattle.ghc_records.proofs.PickLemmas.{picks_in, picks_has}
use Rattle.ghc_depend.specs.Deletion.{IsPartedBy}
use Rattle.ghc_console.specs.Keeping.{RollsBack, not_kept, rolls, RollBack, none_yet, and_next, TellsKept, kept_line, rolled_all, rolled_some}
use Rattle.ghc_console.specs.inner.KeepingCode.{AddsRollback, AddsRollbacks, AddsSomeRollbacks}
use Rattle.ghc_console.specs.Replies.{RepliesToKeep, RepliesToKeepGoal, keeps, keeps_goal, keeps_no_goal, keeps_nothing}

-- records are picked as their numbers are
numbers_picked : {D : Record → Type 0} {Q : ℕ → Type 0} (xs ys : List Record) → ((r : Record) → In r xs → D r ↔ Q r.number) → Picks D xs ys → Picks Q (numbers xs) (numbers ys)
numbers_picked [] ys h nothing = nothing
numbers_picked (x ∷ xs) ys h (taken d p) = taken ((h x (inl refl)).0 d) (numbers_picked xs _ (λ r i. h r (inr i)) p)
numbers_picked (x ∷ xs) ys h (leave n p) = leave (λ q. n ((h x (inl refl)).1 q)) (numbers_picked xs ys (λ r i. h r (inr i)) p)

module _ {D : Record → Type 0} (kept slice rest : List Record) (distinct : AreDistinct (numbers kept)) (parts : IsPartedBy kept D slice rest) where
  by_number : (r : Record) → In r kept → D r ↔ In r.number (numbers slice)
  by_number r i = (
    λ d. elim (picks_has kept slice r parts.0 i) [ inl j ↦ number_in slice r j | inr n ↦ absurd (n d) ],
    λ j.
        let s = number_of slice r.number j in
        let p = picks_in kept slice s.0 parts.0 s.1 in
        subst D (record_once kept s.0 r distinct p.0 i s.2) p.1,
  )

  -- the numbers of the slice are those of the kept steps that it has
  pub slice_numbers : Picks (λ n. In n (numbers slice)) (numbers kept) (numbers slice)
  slice_numbers = numbers_picked kept slice by_number parts.0

  -- and the others are those of the rest
  pub rest_numbers : (ns : List ℕ) → Picks (λ n. ¬ In n (numbers slice)) (numbers kept) ns → ns ≡ numbers rest
  rest_numbers ns p =
      picks_once (numbers kept) ns (numbers rest) p (numbers_picked kept rest (λ r i. (λ n q. n ((by_number r i).1 q), λ n d. n ((by_number r i).0 d))) parts.1)

-- rollbacks leave the opening
rolls_opening : (w v : World) (n : ℕ) (line : List ℕ) → RollsBack w n line v → v.opening ≡ w.opening
rolls_opening w v n line (not_kept none) = refl
rolls_opening w v n line (rolls gone first can changes) = opening_stays w v (goes Going.Together gone) can changes

roll_opening : (w v : World) (ns text : List ℕ) → RollBack w ns text v → v.opening ≡ w.opening
roll_opening w v ns text none_yet = refl
roll_opening w v ns text (and_next {ns = before} {text = front} {line = line} {n = n} {v = u} done one) = rolls_opening u v n line one ∙ roll_opening w u before front done

kept_opening : (w v : World) (ns text : List ℕ) → TellsKept w ns text v → v.opening ≡ w.opening
kept_opening w v ns text (rolled_all {lines = lines} done) = roll_opening w v ns lines done
kept_opening w v ns text (rolled_some {front = front} {lines = lines} back e done) = roll_opening w v front lines done

pub keep_opening : (w v : World) (word text : List ℕ) → RepliesToKeep w word text v → v.opening ≡ w.opening
keep_opening w v word text (keeps x slice rest named parts told) = kept_opening w v (numbers rest) text told
keep_opening w v word text (keeps_nothing none) = refl

pub keep_goal_opening : (w v : World) (g : GoalName) (text : List ℕ) → RepliesToKeepGoal w g text v → v.opening ≡ w.opening
keep_goal_opening w v g text (keeps_goal b slice rest there parts told) = kept_opening w v (numbers rest) text told
keep_goal_opening w v g text (keeps_no_goal none) = refl

-- no step is rolled back yet
pub rolls_none : (w : World) (text : List ℕ) → AddsRollbacks w [] text text w
rolls_none w text = ([], none_yet, sym (append-nil text))

-- and one more
pub rolls_next : (w v u : World) (ns : List ℕ) (n : ℕ) (old mid new : List ℕ) → AddsRollbacks w ns old mid v → AddsRollback v n mid new u → AddsRollbacks w (ns ++ n ∷ []) old new u
rolls_next w v u ns n old mid new done one = (done.0 ++ one.0, and_next done.1 one.1, one.2 ∙ ap (λ t. t ++ one.0) done.2 ∙ append_assoc old done.0 one.0)

-- where it ended before its end, some were
pub rolls_some : (w v : World) (ns : List ℕ) (i : ℕ) (old new : List ℕ) → AddsRollbacks w (take i ns) old new v → AddsSomeRollbacks w ns old new v
rolls_some w v ns i old new done = (take i ns, drop i ns, sym (take-append-drop i ns), done)

-- the text has all, and how many are kept
pub told_all : (w v : World) (ns old mid new : List ℕ) → AddsRollbacks w ns old mid v → old ≡ [] → new ≡ mid ++ kept_line v → TellsKept w ns new v
told_all w v ns old mid new done empty is = subst (λ t. TellsKept w ns t v) (sym (is ∙ ap (λ t. t ++ kept_line v) (done.2 ∙ ap (λ t. t ++ done.0) empty))) (rolled_all done.1)

-- the text has some, and that memory was refused
pub told_some : (w v : World) (ns mid new : List ℕ) → AddsSomeRollbacks w ns [] mid v → new ≡ mid ++ refusal fault.Memory → TellsKept w ns new v
told_some w v ns mid new some is = subst (λ t. TellsKept w ns t v) (sym (is ∙ ap (λ t. t ++ refusal fault.Memory) some.3.2)) (rolled_some some.1 some.2 some.3.1)

-- where all were rolled back, so were the first of them
pub rolls_whole : (w v : World) (ns old new : List ℕ) → AddsRollbacks w ns old new v → AddsSomeRollbacks w ns old new v
rolls_whole w v ns old new done = (ns, [], sym (append-nil ns), done)

-- what is known of a refusal leads to more about it
pub on_err : {T E : Type 0} (r : Result T E) {P Q : Type 0} → OnErr r P → (P → Q) → OnErr r Q
on_err (Ok t) p f = tt
on_err (Err e) p f = f p

-- what holds where a call was not refused
pub where_ok : {T E : Type 0} (r : Result T E) {Q : Type 0} → is_ok r ≡ true → OnOk r Q → Q
where_ok (Ok t) e q = q
where_ok (Err x) e q = cc

-- the opening is left, whether it was refused or not
pub opening_kept : {T E : Type 0} (r : Result T E) (w v : World) → OnOk r (v.opening ≡ w.opening) → OnErr r (v ≡ w) → v.opening ≡ w.opening
opening_kept (Ok t) w v p q = p
opening_kept (Err e) w v p q = ap (λ (z : World). z.opening) q

-- what holds anyway holds at a refusal
pub always_err : {T E : Type 0} (r : Result T E) {Q : Type 0} → Q → OnErr r Q
always_err (Ok t) q = tt
always_err (Err e) q = q

-- what is known of an option, where it is there and where it is not
pub of_some : {X : Type 0} (A : Type 0) (B : X → Type 0) (o : Option X) (x : X) → o ≡ Some x → MatchOption o A B → B x
of_some A B None x e m = cc
of_some A B (Some y) x e m = let same : y ≡ x = cc in subst B same m

pub of_none : {X : Type 0} (A : Type 0) (B : X → Type 0) (o : Option X) → o ≡ None → MatchOption o A B → A
of_none A B None e m = m
of_none A B (Some y) e m = cc
