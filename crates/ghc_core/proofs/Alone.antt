-- A kept step with which no other goes.
use Rattle.ghc_core.proofs.Words.{◌≡◌, List, [], ◌∷◌, subst, inl, inr, In, AreDistinct, Picks, nothing, leave, Record, numbers, Before, before_once, records_distinct, Follows, GoesWith, IsWithout, IsSplitAt, follows_in, picks_has, picks_as, follows_behind, split_at}

-- nothing is picked of which nothing holds
picks_none : {P : Record → Type 0} (rs : List Record) → ((r : Record) → ¬ P r) → Picks P rs []
picks_none [] none = nothing
picks_none (r ∷ rs) none = leave (none r) (picks_none rs none)

-- A step that nothing follows goes alone.
pub goes_alone : (kept : List Record) → AreDistinct (numbers kept) → (r : Record) → In r kept → ((b : Record) → ¬ Follows kept r b) → (left : List Record) × IsSplitAt kept r (r ∷ []) left
goes_alone kept distinct r i none = split_at kept r [] distinct i (picks_none kept none)

module _ (kept : List Record) (r : Record) (left : List Record) (split : IsSplitAt kept r (r ∷ []) left) where
  -- Where it goes alone, what goes with it is itself,
  itself : (s : Record) → In s kept → GoesWith kept r s → s ≡ r
  itself s i g = elim (picks_has kept (r ∷ []) s split.0 i) [ inl (inl e) ↦ e | inl (inr none) ↦ absurd none | inr n ↦ absurd (n g) ]

  -- the others are left,
  pub others_left : IsWithout kept r left
  others_left = picks_as kept left (λ s i n e. n (inl e)) (λ s i n other. n (λ g. other (itself s i g))) split.1

  -- and nothing follows it.
  pub none_follow : AreDistinct (numbers kept) → (b : Record) → ¬ Follows kept r b
  none_follow distinct b f =
      let each = records_distinct kept distinct in
      let behind : Before kept r r = subst (Before kept r) (itself b (follows_in f) (inr f)) (follows_behind kept r b each f) in
      before_once kept r r each behind behind
