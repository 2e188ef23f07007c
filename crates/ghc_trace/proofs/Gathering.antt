-- Goals that are gathered one after another.
use Rattle.ghc_trace.proofs.Words.{◌≡◌, ◌⊎◌, List, [], ◌∷◌, ◌++◌, map, refl, sym, ap, ◌∙◌, inl, inr, append_assoc, append-nil, map-append, ◌↔◌, keys_of, GoalName, in_left, in_right, in_either, NotesByGoal, Former, noted, Gathers}

module _ (notes : NotesByGoal) where
  -- none is gathered to begin with
  pub gathers_none : (P : GoalName → Type 0) (es : List Former) → ((g : GoalName) → ¬ P g) → Gathers notes P es es
  gathers_none P es none = ([], λ g. (λ i. absurd i, λ p. absurd (none g p)), sym (append-nil es))

  -- one is gathered
  pub gathers_one : (old new : List Former) (k : GoalName) → new ≡ old ++ noted notes k ∷ [] → Gathers notes (λ g. g ≡ k) old new
  gathers_one old new k e = (k ∷ [], λ g. (λ i. elim i [ inl same ↦ same | inr never ↦ absurd never ], λ same. inl same), e)

  -- those of one kind are gathered, and then those of another
  pub gathers_both : (P Q R : GoalName → Type 0) (old now new : List Former) → ((g : GoalName) → (P g ⊎ Q g) ↔ R g) → Gathers notes P old now → Gathers notes Q now new → Gathers notes R old new
  gathers_both P Q R old now new kinds first then = (
    first.0 ++ then.0,
    λ g. (
      λ i. (kinds g).0 (elim (in_either first.0 then.0 g i) [ inl j ↦ inl ((first.1 g).0 j) | inr j ↦ inr ((then.1 g).0 j) ]),
      λ r. elim ((kinds g).1 r) [ inl p ↦ in_left first.0 then.0 g ((first.1 g).1 p) | inr q ↦ in_right first.0 then.0 g ((then.1 g).1 q) ],
    ),
    then.2 ∙ ap (λ es. es ++ map (noted notes) then.0) first.2 ∙ append_assoc old (map (noted notes) first.0) (map (noted notes) then.0) ∙ ap (λ es. old ++ es) (sym (map-append (noted notes) first.0 then.0)),
  )

  -- those of a kind are those of the same kind in other words
  pub gathers_alike : (P R : GoalName → Type 0) (old new : List Former) → ((g : GoalName) → P g ↔ R g) → Gathers notes P old new → Gathers notes R old new
  gathers_alike P R old new kinds k = (k.0, λ g. (λ i. (kinds g).0 ((k.1 g).0 i), λ r. (k.1 g).1 ((kinds g).1 r)), k.2)

  -- the names of goals that were gathered
  pub names_noted : (gs : List GoalName) → keys_of (map (noted notes) gs) ≡ gs
  names_noted [] = refl
  names_noted (g ∷ gs) = ap (λ hs. g ∷ hs) (names_noted gs)
