-- Places of calls in a list: one more at the end, and the maps that have them.
use Rattle.ghc_trace.proofs.Words.{◌≡◌, ℕ, zero, suc, ◌<◌, true, false, List, [], ◌∷◌, ◌++◌, length, refl, sym, ap, ◌∙◌, subst, inl, inr, arith, Option, Some, None, cond, eq_by_cmp, nat_cmp, cases_eq, eq-eqb, ne_eqb, slice_get, slice_get_within, GoalName, goal_cmp, same_goal, tie, same_value, is_some}
use Rattle.std.specs.BTreeMap.{BTreeMap, Updates, get, is_at}
use Rattle.std.specs.Map.{lookup}
use Rattle.std.specs.Prelude.{IfNone, IfSome, IsSome}
pub use Rattle.ghc_term.proofs.Placing.{push_either as at_more, push_last as at_last}
use Rattle.ghc_term.proofs.Placing.{push_before}
use Rattle.ghc_term.proofs.GoalNames.{apart}
use Rattle.ghc_records.proofs.States.{tied}
use Rattle.ghc_depend.proofs.Finding.{goal_or_not}
use Rattle.ghc_trace.specs.declared.slice_calls.Call.{Call}
use Rattle.ghc_trace.specs.inner.BlameCode.{AddsCall, AreFound, AreMakersBefore, ArePlacesOf, IsPlaceTakenBy, StandsAtPlace}

pub at_left : {X : Type 0} (xs : List X) (y : X) (i : ℕ) (x : X) → slice_get xs i ≡ Some x → slice_get (xs ++ y ∷ []) i ≡ Some x
at_left xs y i x e = push_before xs y i (slice_get_within xs i x e) ∙ e

-- At the place stands the call of this name; or none has it, where no place is given.
abbrev pub IsPlaceNamed : List Call → GoalName → Option ℕ → Type 0
IsPlaceNamed calls g (Some i) = (c : Call) × StandsAtPlace calls i c × (c.name ≡ g)
IsPlaceNamed calls g None = (i : ℕ) (c : Call) → StandsAtPlace calls i c → ¬ (c.name ≡ g)

abbrev pub AreNamed : List Call → BTreeMap GoalName ℕ → Type 0
AreNamed calls places = (g : GoalName) → IsPlaceNamed calls g (get goal_cmp places g)

at_within : {X : Type 0} (xs : List X) (i : ℕ) → i < length xs → (x : X) × (slice_get xs i ≡ Some x)
at_within [] i low = absurd (omega (arith, low))
at_within (x ∷ xs) zero low = (x, refl)
at_within (x ∷ xs) (suc i) low = at_within xs i (omega (arith, low))

pub named_of : (calls : List Call) (places : BTreeMap GoalName ℕ) → ArePlacesOf calls places → AreNamed calls places
named_of calls places h g = by_get (get goal_cmp places g) refl
  where
    by_get : (o : Option ℕ) → get goal_cmp places g ≡ o → IsPlaceNamed calls g o
    by_get (Some i) e = let q = (h g).0 i e in let x = at_within calls i q.0 in (x.0, x.1, same_goal x.0.name g (q.1 x.0 x.1))
    by_get None e = (h g).1 e

pub as_places : (calls : List Call) (places : BTreeMap GoalName ℕ) → AreNamed calls places → ArePlacesOf calls places
as_places calls places n g = (
  (λ i e.
      let q = subst (IsPlaceNamed calls g) e (n g) in
      (slice_get_within calls i q.0 q.1, λ c at. let same : c ≡ q.0 = same_value at q.1 in tied c.name g (ap (λ (z : Call). z.name) same ∙ q.2))),
  (λ e. subst (IsPlaceNamed calls g) e (n g)),
)

-- A look-up finds what stands there.
pub is_found : (calls : List Call) (g : GoalName) (o : Option ℕ) → IsPlaceNamed calls g o → IfSome o (λ i. (c : Call) × StandsAtPlace calls i c × (c.name ≡ g))
is_found calls g (Some i) h = h
is_found calls g None h = tt

pub is_nowhere : (calls : List Call) (g : GoalName) (o : Option ℕ) → IsPlaceNamed calls g o → IfNone o ((i : ℕ) (c : Call) → StandsAtPlace calls i c → ¬ (c.name ≡ g))
is_nowhere calls g (Some i) h = tt
is_nowhere calls g None h = h

-- No name has a place yet.
pub places_none : (m : BTreeMap GoalName ℕ) → m.entries ≡ [] → AreNamed [] m
places_none m e g = subst (IsPlaceNamed [] g) (sym (ap (λ es. lookup (is_at (goal_cmp g)) es) e)) (λ i c at. let clash : None ≡ Some c = at in cc)

-- One call more has its place.
module _ (calls : List Call) (c : Call) (m n : BTreeMap GoalName ℕ) (h : AreNamed calls m) (up : Updates goal_cmp m n c.name (Some (length calls))) where
  pub place_more : AreNamed (calls ++ c ∷ []) n
  place_more g =
      let now : get goal_cmp n g ≡ cond (eq_by_cmp goal_cmp c.name g) (Some (length calls)) (get goal_cmp m g) = up.0 g in
      elim (goal_or_not c.name g) [
        | inl same ↦ subst (IsPlaceNamed (calls ++ c ∷ []) g) (sym (now ∙ ap (λ b. cond b (Some (length calls)) (get goal_cmp m g)) (tied c.name g same))) (c, at_last calls c, same)
        | inr other ↦ subst (IsPlaceNamed (calls ++ c ∷ []) g) (sym (now ∙ ap (λ b. cond b (Some (length calls)) (get goal_cmp m g)) (apart c.name g other))) (kept other (get goal_cmp m g) (h g))
      ]
    where
      kept : ¬ (c.name ≡ g) → (o : Option ℕ) → IsPlaceNamed calls g o → IsPlaceNamed (calls ++ c ∷ []) g o
      kept other (Some i) p = (p.0, at_left calls c i p.0 p.1, p.2)
      kept other None none = λ i d at same. elim (at_more calls c d i at) [ inl a ↦ none i d a same | inr q ↦ other (ap (λ (z : Call). z.name) (sym q.1) ∙ same) ]

module _ (calls new : List Call) (g : GoalName) (taker : Option ℕ) (add : AddsCall calls new g taker) where
  abbrev c : Call
  c = record { name = g; maker = add.0; taker = taker }

  pub before_more : AreMakersBefore calls → AreMakersBefore new
  before_more h = subst AreMakersBefore (sym add.2) (λ i p d at e. elim (at_more calls c d i at) [
    | inl a ↦ h i p d a e
    | inr q ↦
        let mine : add.0 ≡ Some p = ap (λ (z : Call). z.maker) (sym q.1) ∙ e in
        let there = subst (IsPlaceTakenBy calls g.step) mine add.1 in
        let low = slice_get_within calls p there.0 there.1 in
        let here = q.0 in
        omega (arith, low, here)
  ])

  -- A step took one call more.
  module _ (number : ℕ) (by : taker ≡ Some number) (m n : BTreeMap ℕ ℕ) (h : AreFound calls m) (up : Updates nat_cmp m n number (Some (length calls))) where
    pub found_more : AreFound new n
    found_more = record {
      before = before_more h.before;
      taken = λ k. subst (λ (l : List Call). IsPlaceTakenBy l k (get nat_cmp n k)) (sym add.2) (at_number k);
    }
      where
        kept : (k : ℕ) → ¬ (number ≡ k) → (o : Option ℕ) → IsPlaceTakenBy calls k o → IsPlaceTakenBy (calls ++ c ∷ []) k o
        kept k other (Some p) q = (q.0, at_left calls c p q.0 q.1, q.2)
        kept k other None none = λ p d at tk. elim (at_more calls c d p at) [
          | inl a ↦ none p d a tk
          | inr q ↦ other (same_value by (ap (λ (z : Call). z.taker) (sym q.1) ∙ tk))
        ]

        at_number : (k : ℕ) → IsPlaceTakenBy (calls ++ c ∷ []) k (get nat_cmp n k)
        at_number k =
            let now : get nat_cmp n k ≡ cond (eq_by_cmp nat_cmp number k) (Some (length calls)) (get nat_cmp m k) = up.0 k in
            elim (cases_eq number k) [
              | inl same ↦ subst (IsPlaceTakenBy (calls ++ c ∷ []) k) (sym (now ∙ ap (λ b. cond b (Some (length calls)) (get nat_cmp m k)) (sym (tie number k) ∙ eq-eqb number k same))) (c, at_last calls c, by ∙ ap Some same)
              | inr other ↦ subst (IsPlaceTakenBy (calls ++ c ∷ []) k) (sym (now ∙ ap (λ b. cond b (Some (length calls)) (get nat_cmp m k)) (sym (tie number k) ∙ ne_eqb number k other))) (kept k other (get nat_cmp m k) (h.taken k))
            ]

-- A call's maker stands before it.
pub maker_before : (calls : List Call) → AreMakersBefore calls → (j : ℕ) (d : Call) → StandsAtPlace calls j d → IfSome d.maker (λ p. p < j)
maker_before calls before j d at = by_maker d.maker refl
  where
    by_maker : (o : Option ℕ) → d.maker ≡ o → IfSome o (λ p. p < j)
    by_maker None e = tt
    by_maker (Some p) e = before j p d at e

-- If what `none` says is false, there is something.
pub there_is : {X : Type 0} (o : Option X) (Q : Type 0) → IfNone o Q → ¬ Q → IsSome o
there_is (Some x) Q h n = refl
there_is None Q h n = absurd (n h)

-- By its test, a look-up found a call or none.
pub found_there : (calls : List Call) (g : GoalName) (o : Option ℕ) → IfSome o (λ i. (c : Call) × StandsAtPlace calls i c × (c.name ≡ g)) → is_some o ≡ true → (i : ℕ) × (c : Call) × StandsAtPlace calls i c × (c.name ≡ g)
found_there calls g (Some i) h e = (i, h.0, h.1, h.2)
found_there calls g None h e = let clash : false ≡ true = e in cc

pub nowhere_there : (calls : List Call) (g : GoalName) (o : Option ℕ) → IfNone o ((i : ℕ) (c : Call) → StandsAtPlace calls i c → ¬ (c.name ≡ g)) → is_some o ≡ false → (i : ℕ) (c : Call) → StandsAtPlace calls i c → ¬ (c.name ≡ g)
nowhere_there calls g (Some i) h e = let clash : true ≡ false = e in cc
nowhere_there calls g None h e = h
