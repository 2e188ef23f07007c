-- What a round over a shared core takes, a run of several workers may take.
use Rattle.ghc_pool.proofs.Words.{◌≡◌, ℕ, zero, suc, ◌+◌, ◌-◌, ◌<◌, ◌≤◌, List, [], ◌∷◌, ◌++◌, length, true, Option, Some, None, refl, sym, ap, ◌∙◌, subst, inl, inr, arith, append-nil, length-append, All, nat_cmp_total, GoalName, Goal, Record, Entry, Item, entered, history, opening_code, same_value, NotesByGoal, Change, Proposal, Hands, World, with_step, IsStanding, Changes, reply_of, AsksFor, Answers, Leaves, and_entry, IsCommitOf, not_longer, reached_legal, legal_reachable, leaves_once, reachable_reached, Known, newcomers, AreEachOnce, places_since, holding, code_of, weight-one, Spies, Scope, Any, Of, IsInQuestion, IsRunStep, Takes, at_start, and_tries, and_step, AddsAtTheEnd, TookInQuestion, Work, total_work, submits_by, AreTold, IsInScope, Covers, IsPassAfter}
use Rattle.std.specs.FinMap as finite
use mathlib.Core.List.{IsPrefix}
use Rattle.ghc_core.specs.Events as events
use Rattle.ghc_pool.proofs.AtTheEnd.{adds_at_the_end, still_in_question}
use Rattle.ghc_pool.proofs.Asked.{none_since, one_since, made_since}
use Rattle.ghc_pool.proofs.SameCalls.{held_unspied}
use Rattle.ghc_pool.proofs.RoundPlaces.{IsTakenAt, are_newcomers, newcomers_length, start_begins, few_places, by_place}
use Rattle.ghc_shared.proofs.PlacesOnce.{numbers_length}

-- fronts of one length of one list are one
front_once : (xs ys more rest : List Item) → length xs ≡ length ys → xs ++ more ≡ ys ++ rest → xs ≡ ys
front_once [] [] more rest long e = refl
front_once [] (y ∷ ys) more rest long e = absurd (omega (arith, long))
front_once (x ∷ xs) [] more rest long e = absurd (omega (arith, long))
front_once (x ∷ xs) (y ∷ ys) more rest long e =
    let first : x ≡ y = cc in
    let behind : xs ++ more ≡ ys ++ rest = cc in
    let last : xs ≡ ys = front_once xs ys more rest (omega (arith, long)) behind in
    λ i. first i ∷ last i

-- a front as long as the whole is the whole
whole_front : (xs rest whole : List Item) → xs ++ rest ≡ whole → length xs ≡ length whole → xs ≡ whole
whole_front xs [] whole e long = sym (append-nil xs) ∙ e
whole_front xs (x ∷ rest) whole e long = absurd (omega (arith, long, ap (λ (l : List Item). length l) e, length-append xs (x ∷ rest)))

-- what a commit asks for is a step of what is proposed
of_hand : (u v : World) (p : Proposal) (change : Change) → AsksFor u (holding p) (events.commit 1) change → Changes u change v → (r : Record) × IsCommitOf u p r × (v ≡ with_step r u)
of_hand u v p change (AsksFor.by_hand {p = q} {r = r} held holds) changes =
    let same : q ≡ p = same_value held (finite.get-insert nat_cmp_total finite.empty 1 p 1) in (r, subst (λ (x : Proposal). IsCommitOf u x r) same holds, changes)

-- a commit that adds an entry takes a step of what is proposed
committed : (u v : World) (p : Proposal) (reply : events.Reply) (left : Hands) (entry : Entry) → Answers ⊥ u (holding p) (events.commit 1) reply v left → v.journal ≡ u.journal ++ entry ∷ []
    → (r : Record) × IsCommitOf u p r × (v ≡ with_step r u)
committed u v p reply left entry (Answers.no_hand none) adds = absurd (not_longer u.journal entry adds)
committed u v p reply left entry (Answers.makes {change = change} hand asks can changes told) adds = of_hand u v p change asks changes
committed u v p reply left entry (Answers.says hand says) adds = absurd (not_longer u.journal entry adds)
committed u v p reply left entry (Answers.fails hand why) adds = absurd (not_longer u.journal entry adds)
committed u v p reply left entry (Answers.no_memory starved) adds = absurd starved

-- what a legal history leaves is a standing world
left_standing : {items : List Item} {u : World} → Leaves items u → IsStanding u
left_standing {items} {u} legal = reachable_reached (legal_reachable items u legal).1.1

-- a goal in the scope is in question
scope_asked : (root : Option GoalName) (w u : World) (scope : Scope) (steps : List Record) → Covers root w scope → IsStanding u → u.kept ≡ w.kept ++ steps → TookInQuestion root u.kept w.next
    → (g : GoalName) (b : Goal) → finite.get u.state.goals g ≡ Some b → IsInScope scope g → IsInQuestion root u.kept g
scope_asked None w u scope steps covers stands kept took g b there inside = tt
scope_asked (Some named) w u Any steps covers stands kept took g b there inside = absurd covers
scope_asked (Some named) w u (Of names since) steps covers stands kept took g b there (inl i) =
    subst (λ (l : List Record). IsInQuestion (Some named) l g) (sym kept) (still_in_question (Some named) w.kept steps g (covers.1 g i))
scope_asked (Some named) w u (Of names since) steps covers stands kept took g b there (inr late) = made_since (Some named) u w.next stands took g b there (subst (λ (n : ℕ). n ≤ g.step) covers.0 late)

-- The first n items after the start are steps that a run may take.
record HasTaken (workers : ℕ) (spies : Spies) (root : Option GoalName) (w : World) (notes : NotesByGoal) (whole : List Item) (n : ℕ) : Type 0 where
  pub world : World
  pub steps : List Record
  pub front : List Item
  pub taken : Takes workers spies root w notes steps world notes
  pub legal : Leaves front world
  pub begins : IsPrefix front whole
  pub long : length front ≡ length (history w.opening w.journal) + n
  pub count : length steps ≡ n
  pub asked : TookInQuestion root world.kept w.next

module _ (workers : ℕ) (several : workers ≡ 1 → ⊥) (scope : Scope) (spies : Spies) (root : Option GoalName) (w : World) (notes : NotesByGoal) (covers : Covers root w scope) (whole : List Item) where
  -- the next one is too
  next_taken : (n : ℕ) → HasTaken workers spies root w notes whole n → IsTakenAt (code_of w.opening) scope spies whole (length (history w.opening w.journal) + n) → HasTaken workers spies root w notes whole (suc n)
  next_taken n h t =
      let s = t.stands in
      let proposed = t.unspied.1 in
      let is = proposed.answer.0 in
      let ends : AddsAtTheEnd w h.steps h.world = adds_at_the_end workers spies root w notes h.world notes h.steps h.taken in
      let opening : t.unspied.0.opening ≡ h.world.opening = opening_code.inj t.unspied.0.opening w.opening proposed.of_opening ∙ sym ends.opening in
      let same : s.before ≡ h.front = front_once s.before h.front (entered s.entry ∷ s.begins.0) h.begins.0 (omega (arith, s.place, t.here, h.long)) (regrouped s.before s.entry s.begins.0 ∙ sym s.begins.1 ∙ sym h.begins.1) in
      let here : s.accepted.before ≡ h.world = leaves_once h.front s.accepted.before h.world (subst (λ (l : List Item). Leaves l s.accepted.before) same s.accepted.legal) h.legal in
      let did : (r : Record) × IsCommitOf s.accepted.before t.proposal r × (s.accepted.after ≡ with_step r s.accepted.before) =
      committed s.accepted.before s.accepted.after t.proposal (reply_of t.receipt.reply) s.accepted.left s.entry s.accepted.answer s.accepted.adds in
      let holds : IsCommitOf h.world t.proposal did.0 = subst (λ (u : World). IsCommitOf u t.proposal did.0) here did.1 in
      let now : s.accepted.after ≡ with_step did.0 h.world = did.2 ∙ ap (with_step did.0) here in
      let there = subst (λ (g : GoalName). finite.get h.world.state.goals g ≡ Some holds.0.0) is.named holds.0.2 in
      let step : IsRunStep workers spies root h.world notes did.0 = record {
        goal = t.goal;
        taken = (t.proposal, (t.unspied.0, proposed.standing, opening, (is.named, is.proposed)), holds);
        alone = λ one. absurd (several one);
        asked = scope_asked root w h.world scope h.steps covers (left_standing h.legal) ends.kept h.asked t.goal holds.0.0 there t.inside;
        unspied = held_unspied spies t.unspied.0 h.world t.goal t.proposal opening is.named is.there is.proposed t.unspied.2 holds.0;
        unfailed = λ one. absurd (several one);
      } in
      record {
        world = with_step did.0 h.world;
        steps = h.steps ++ did.0 ∷ [];
        front = s.before ++ entered s.entry ∷ [];
        taken = and_step did.0 notes h.taken step (λ one. absurd (several one));
        legal = subst (λ (u : World). Leaves (s.before ++ entered s.entry ∷ []) u) now
            (and_entry s.entry (reply_of t.receipt.reply) s.accepted.legal (holding t.proposal, s.accepted.left, events.commit 1, s.accepted.answer, s.accepted.adds));
        begins = (s.begins.0, sym s.begins.1);
        long = omega (arith, length-append s.before (entered s.entry ∷ []), s.place, t.here);
        count = omega (arith, length-append h.steps (did.0 ∷ []), h.count);
        asked = one_since workers spies root h.world notes did.0 w.next step h.asked;
      }
    where
      regrouped : (xs : List Item) (e : Entry) (ys : List Item) → xs ++ entered e ∷ ys ≡ (xs ++ entered e ∷ []) ++ ys
      regrouped [] e ys = refl
      regrouped (x ∷ xs) e ys = ap (λ (l : List Item). x ∷ l) (regrouped xs e ys)

  -- so are all
  all_taken : IsStanding w → IsPrefix (history w.opening w.journal) whole → (n : ℕ)
      → ((k : ℕ) → k < n → IsTakenAt (code_of w.opening) scope spies whole (length (history w.opening w.journal) + k)) → HasTaken workers spies root w notes whole n
  all_taken stands begins zero each = record {
    world = w;
    steps = [];
    front = history w.opening w.journal;
    taken = at_start;
    legal = reached_legal stands;
    begins = begins;
    long = omega arith;
    count = refl;
    asked = none_since root w stands;
  }
  all_taken stands begins (suc n) each = next_taken n (all_taken stands begins n (λ k low. each k (omega (arith, low)))) (each n (omega arith))

-- What a round took since the start, a run of several workers may take, if what the round may step is in question; and it took no more steps than it submitted.
pub round_takes : (workers : ℕ) (scope : Scope) (spies : Spies) (root : Option GoalName) (w v : World) (before after : NotesByGoal) (passes : ℕ) (ks : List Work) (nows : List (Known Item)) → (workers ≡ 1 → ⊥) → IsStanding w → IsStanding v → 0 < passes
    → Covers root w scope → AreTold (IsPassAfter (code_of w.opening) scope spies true) (newcomers (history w.opening w.journal) passes) ks nows → All (λ p. IsPrefix p.front (history v.opening v.journal)) nows
    → AreEachOnce nows (places_since (length (history w.opening w.journal)) (history v.opening v.journal)) → (steps : List Record) × Takes workers spies root w before steps v after × (length steps ≤ total_work submits_by ks)
round_takes workers scope spies root w v before after passes ks nows several stands ends some covers told begins once =
    let start = history w.opening w.journal in
    let whole = history v.opening v.journal in
    let starts = newcomers start passes in
    let new = are_newcomers start passes in
    let first : IsPrefix start whole = start_begins (code_of w.opening) scope spies start whole starts ks nows told new begins (omega (arith, some, newcomers_length start passes)) in
    let longer : length start + (length whole - length start) ≡ length whole = omega (arith, ap (λ (l : List Item). length l) first.1, length-append start first.0) in
    let all : HasTaken workers spies root w before whole (length whole - length start) = all_taken workers several scope spies root w before covers whole stands first (length whole - length start)
    (λ k low. by_place (code_of w.opening) scope spies (length start + k) (length start) (length whole - length start) start whole starts ks nows told new begins once (omega arith) (omega (arith, low))) in
    let same : all.front ≡ whole = whole_front all.front all.begins.0 whole all.begins.1 (all.long ∙ longer) in
    let is : all.world ≡ v = leaves_once whole all.world v (subst (λ (l : List Item). Leaves l all.world) same all.legal) (reached_legal ends) in
    let places = few_places (code_of w.opening) scope spies start whole starts ks nows told new in (
      all.steps,
      subst (λ (u : World). Takes workers spies root w before all.steps u after) is (and_tries after all.taken (λ one. absurd (several one))),
      omega (arith, all.count, places, once (λ _. 1), weight-one (places_since (length start) whole), numbers_length (length start) (length whole - length start)),
    )
