-- Numbers under the names of goals, of which those of the first two goals of steps stand in a list, two places for each step.
use Rattle.ghc_term.proofs.Words.{◌≡◌, ◌≢◌, ◌<◌, ◌≤◌, ◌+◌, ◌*◌, ℕ, zero, suc, true, false, List, ◌∷◌, ◌++◌, ◌⊎◌, inl, inr, length, refl, sym, ap, ◌∙◌, subst, nat_eq, arith, None, slice_set, IsTrue, is_some, eqb-true, add-one, GoalName, goal_cmp, IsNear, near_name, number_in, near_numbers, numbers_in, numbers_of, HasNoNear, Table}
use Rattle.std.specs.FinMap as finite
use Rattle.ghc_term.proofs.GoalNames.{goal_total, goal_antisymmetric, same_parts}
use Rattle.ghc_term.proofs.Slots as slots

-- the places of the list, and the goals that they are for
pub slot_one : (s : ℕ) (g : GoalName) → s ≡ g.step * 2 → g.place ≡ 1 → near_name s ≡ g
slot_one s g e p = same_parts (near_name s) g (omega (arith, e)) (omega (arith, e, p))

pub slot_two : (s : ℕ) (g : GoalName) → s ≡ g.step * 2 + 1 → g.place ≡ 2 → near_name s ≡ g
slot_two s g e p = same_parts (near_name s) g (omega (arith, e)) (omega (arith, e, p))

one_or_two : (k : ℕ) → k < 2 → (k + 1 ≡ 1) ⊎ (k + 1 ≡ 2)
one_or_two zero h = inl refl
one_or_two (suc zero) h = inr refl
one_or_two (suc (suc k)) h = absurd (omega (arith, h))

one_slot : (s t : ℕ) → near_name s ≡ near_name t → s ≡ t
one_slot s t e = let steps = ap (λ (g : GoalName). g.step) e in let places = ap (λ (g : GoalName). g.place) e in omega (arith, steps, places)

-- the goal of a place is one of the first two of its step
pub near_is : (s : ℕ) (g : GoalName) → near_name s ≡ g → IsNear g
near_is s g e = subst IsNear e (one_or_two _ (omega arith))

abbrev Placed : GoalName → Type 0
Placed g = ((s : ℕ) × (near_name s ≡ g)) ⊎ ((s : ℕ) → near_name s ≢ g)

-- each goal has a place, or is none of the first two of its step
placed : (g : GoalName) → Placed g
placed g = elim (nat_eq g.place 1) as (λ b. nat_eq g.place 1 ≡ b → Placed g) [
  | true ↦ λ e. inl (g.step * 2, slot_one (g.step * 2) g refl (eqb-true g.place 1 e))
  | false ↦ λ e. elim (nat_eq g.place 2) as (λ b. nat_eq g.place 2 ≡ b → Placed g) [
    | true ↦ λ f. inl (g.step * 2 + 1, slot_two (g.step * 2 + 1) g refl (eqb-true g.place 2 f))
    | false ↦ λ f. inr (λ s n. elim (near_is s g n) [
      | inl a ↦ let clash : true ≡ false = sym (ap (λ p. nat_eq p 1) a) ∙ e in cc
      | inr a ↦ let clash : true ≡ false = sym (ap (λ p. nat_eq p 2) a) ∙ f in cc
    ])
  ] refl
] refl

pub listing : slots.Listing goal_cmp near_name number_in 0 near_numbers
listing = record {
  total = goal_total;
  alike = goal_antisymmetric;
  once = one_slot;
  placed = placed;
  blank_is = refl;
  empty = λ n. refl;
  more = λ n o ns. elim o as (λ o. near_numbers n (o ∷ ns) ≡ slots.slot (near_name n) (number_in o) ++ near_numbers (n + 1) ns) [ zero ↦ refl | suc v ↦ refl ];
}

pub far : (ns : List ℕ) (x : GoalName) → ¬ IsNear x → finite.find goal_cmp x (near_numbers 0 ns) ≡ None
far ns x h = slots.own_far listing ns x (λ s e. h (near_is s x e))

-- a number that is put among those of the list and of the entries: in an entry, or at a place of the list
module _ (ns : List ℕ) (es : List (GoalName × ℕ)) {room : ℕ} {whole : Table (finite.FinMap goal_cmp ℕ)} (view_is : record { held = numbers_of ns es; room = room } ≡ whole) (x : GoalName) (v : ℕ) where
  put_in : (m : finite.FinMap goal_cmp ℕ) → m ≡ finite.insert (numbers_of ns es) x v → m ≡ finite.insert whole.held x v
  put_in m e = e ∙ ap (λ t. finite.insert t.held x v) view_is

  pub put_far : (fs : List (GoalName × ℕ)) → ¬ IsNear x → numbers_in fs ≡ finite.insert (numbers_in es) x v → numbers_of ns fs ≡ finite.insert whole.held x v
  put_far fs h e = put_in (numbers_of ns fs) (slots.put_unlisted listing ns es x fs v (far ns x h) e)

  module _ (s : ℕ) (h : near_name s ≡ x) where
    pub put_past : (fs : List (GoalName × ℕ)) → length ns ≤ s → numbers_in fs ≡ finite.insert (numbers_in es) x v → numbers_of ns fs ≡ finite.insert whole.held x v
    put_past fs past e = put_in (numbers_of ns fs) (slots.put_unlisted listing ns es x fs v (slots.own_past listing ns s x h past) e)

    pub put_near : (ms : List ℕ) → s < length ns → ms ≡ slice_set ns s (v + 1) → numbers_of ms es ≡ finite.insert whole.held x v
    put_near ms within e = put_in (numbers_of ms es) (ap (λ l. numbers_of l es) e ∙ slots.put_listed listing ns es x s h (v + 1) v (rw add-one) within)

-- a name that has a number, and none in the list, has an entry
pub there_far : (ns : List ℕ) (es : List (GoalName × ℕ)) (x : GoalName) → ¬ IsNear x → IsTrue (finite.contains_key (numbers_of ns es) x) → IsTrue (finite.contains_key (numbers_in es) x)
there_far ns es x h t = subst (λ o. IsTrue (is_some o)) (slots.value_unlisted listing ns es x (far ns x h)) t

pub there_past : (ns : List ℕ) (es : List (GoalName × ℕ)) (s : ℕ) (x : GoalName) → near_name s ≡ x → length ns ≤ s → IsTrue (finite.contains_key (numbers_of ns es) x) → IsTrue (finite.contains_key (numbers_in es) x)
there_past ns es s x h past t = subst (λ o. IsTrue (is_some o)) (slots.value_unlisted listing ns es x (slots.own_past listing ns s x h past)) t

-- entries that are none of such goals have none of them
pub near_written : (es : List (GoalName × ℕ)) (s : ℕ) (g : GoalName) → near_name s ≡ g → HasNoNear es → ¬ IsTrue (finite.contains_key (numbers_in es) g)
near_written es s g e none t = let clash : false ≡ true = sym (ap is_some (none g (near_is s g e))) ∙ t in cc
