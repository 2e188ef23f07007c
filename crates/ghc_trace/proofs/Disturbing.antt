-- Which goals a change disturbs.
use Rattle.ghc_trace.proofs.Words.{◌≡◌, ℕ, ◌+◌, ◌≤◌, ◌⊎◌, List, [], ◌∷◌, ◌++◌, refl, sym, ap, ◌∙◌, subst, inl, inr, arith, cases_eq, ◌↔◌, Option, Some, None, is_some, option_copied, Bor, list_any, keys_of, eq_by_cmp, is_some-find, GoalName, VarName, In, name_cmp, Tree, name_total, in_map, in_left, in_last, in_more, in_any, any_in, Record, mapped, same_parts, NotesByGoal, HasLookedAt, Binds, IsBoundIn, IsConsumedIn, stuck_by, Disturbed, IsOneOf, LooksWhere, AreDisturbed, Former, noted, Gathers}
use Rattle.std.specs.FinMap as finite
use Rattle.ghc_trace.proofs.Gathering.{names_noted}

-- By its note the goal looked at the variable of one of these bindings.
abbrev pub LooksAtOneOf : NotesByGoal → List (VarName × Tree) → GoalName → Type 0
LooksAtOneOf notes bs g = (b : VarName × Tree) × In b bs × HasLookedAt notes b.0 g

-- a variable has a value in a map where it is among the keys
pub is_key : (es : List (VarName × Tree)) (x : VarName) → finite.contains_key (finite.from_entries {R = name_cmp} es) x ≡ list_any (eq_by_cmp name_cmp x) (keys_of es)
is_key es x = ap is_some (finite.get-from_entries name_total es x) ∙ is_some-find name_cmp x es

-- all that look at one of the bindings of a step look where it binds
pub looks_where_bound : (notes : NotesByGoal) (r : Record) (es : List (VarName × Tree)) → finite.from_entries es ≡ r.effect.binds → (g : GoalName) → LooksAtOneOf notes es g ↔ LooksWhere notes (Binds r) g
looks_where_bound notes r es e g = (
  λ l. (l.0.0, ap (λ m. finite.contains_key m l.0.0) (sym e) ∙ is_key es l.0.0 ∙ in_any l.0.0 (keys_of es) (in_map (λ (b : VarName × Tree). b.0) es l.0 l.1), l.2),
  λ w.
      let b = mapped (λ (b : VarName × Tree). b.0) es w.0 (any_in w.0 (keys_of es) (sym (is_key es w.0) ∙ ap (λ m. finite.contains_key m w.0) e ∙ w.1)) in
      (b.0, b.1, subst (λ z. HasLookedAt notes z g) b.2 w.2),
)

-- a place up to the next is one up to here, or the next
pub up_to : (g : GoalName) (n i : ℕ) → g.step ≡ n → 1 ≤ g.place → g.place ≤ i + 1 → ((g.step ≡ n) × (1 ≤ g.place) × (g.place ≤ i)) ⊎ (g ≡ record { step = n; place = i + 1 })
up_to g n i s a b = elim (cases_eq g.place (i + 1)) [
  | inl e ↦ inr (same_parts g (record { step = n; place = i + 1 }) s e)
  | inr d ↦ inl (s, a, omega (arith, b, d))
]

-- a copy is found just where a handle is
pub handled : {X : Type 0} (o : Option (Bor X)) → is_some (option_copied o) ≡ is_some o
handled None = refl
handled (Some b) = refl

pub one_name : {g h : GoalName} → Some g ≡ Some h → g ≡ h
one_name e = cc

pub no_name : {g : GoalName} → None ≡ Some g → ⊥
no_name e = cc

-- The goal looked where one of the steps binds, or one of them consumed it.
abbrev pub IsOfOneOf : NotesByGoal → List Record → GoalName → Type 0
IsOfOneOf notes gone g = LooksWhere notes (IsBoundIn gone) g ⊎ IsConsumedIn gone g

abbrev pub IsOf : NotesByGoal → Record → GoalName → Type 0
IsOf notes r g = LooksWhere notes (Binds r) g ⊎ (r.goal ≡ Some g)

-- the same of one step alone
pub of_one : (notes : NotesByGoal) (r : Record) (g : GoalName) → IsOf notes r g ↔ IsOfOneOf notes (r ∷ []) g
of_one notes r g = (
  λ h. elim h [ inl l ↦ inl (l.0, (r, inl refl, l.1), l.2) | inr e ↦ inr (r, inl refl, e) ],
  λ h. elim h [
    | inl l ↦ inl (l.0, elim l.1.1 [ inl same ↦ subst (λ z. Binds z l.0) same l.1.2 | inr i ↦ absurd i ], l.2)
    | inr k ↦ inr (elim k.1 [ inl same ↦ subst (λ (z : Record). z.goal ≡ Some g) same k.2 | inr i ↦ absurd i ])
  ],
)

-- and of one step more
pub of_one_more : (notes : NotesByGoal) (gone : List Record) (r : Record) (g : GoalName) → (IsOfOneOf notes gone g ⊎ IsOf notes r g) ↔ IsOfOneOf notes (gone ++ r ∷ []) g
of_one_more notes gone r g = (
  λ h. elim h [
    | inl (inl l) ↦ inl (l.0, (l.1.0, in_left gone (r ∷ []) l.1.0 l.1.1, l.1.2), l.2)
    | inl (inr k) ↦ inr (k.0, in_left gone (r ∷ []) k.0 k.1, k.2)
    | inr (inl l) ↦ inl (l.0, (r, in_last gone r, l.1), l.2)
    | inr (inr e) ↦ inr (r, in_last gone r, e)
  ],
  λ h. elim h [
    | inl l ↦ elim (in_more gone r l.1.0 l.1.1) [
      | inl j ↦ inl (inl (l.0, (l.1.0, j, l.1.2), l.2))
      | inr same ↦ inr (inl (l.0, subst (λ z. Binds z l.0) same l.1.2, l.2))
    ]
    | inr k ↦ elim (in_more gone r k.0 k.1) [
      | inl j ↦ inl (inr (k.0, j, k.2))
      | inr same ↦ inr (inr (subst (λ (z : Record). z.goal ≡ Some g) same k.2))
    ]
  ],
)

-- what was gathered of goals that a change touches and brings, is what it disturbs
pub gathered_disturbed : (notes : NotesByGoal) (Touched : VarName → Type 0) (Brought : GoalName → Type 0) (es : List Former) (d : Disturbed)
    → Gathers notes (λ g. LooksWhere notes Touched g ⊎ Brought g) [] es → ((g : GoalName) → IsOneOf d g ↔ In g (keys_of es))
    → ((e : Former) → finite.get d e.0 ≡ Some e.1 → In e es) → AreDisturbed notes Touched Brought d
gathered_disturbed notes Touched Brought es d k members gathered =
    let names : keys_of es ≡ k.0 = ap keys_of k.2 ∙ names_noted notes k.0 in
    record {
      members = λ g. (
        λ h. (k.1 g).0 (subst (In g) names ((members g).0 h)),
        λ h. (members g).1 (subst (In g) (sym names) ((k.1 g).1 h)),
      );
      as_noted = λ g before e.
          let p = mapped (noted notes) k.0 (g, before) (subst (In (g, before)) k.2 (gathered (g, before) e)) in
          ap (λ (e : Former). e.1) p.2 ∙ ap (λ h. stuck_by (finite.get notes h)) (sym (ap (λ (e : Former). e.0) p.2));
    }
