-- Words about lists in recorded order.
use Rattle.std.specs.Prelude.{◌≡◌, List, [], ◌∷◌, ◌++◌}
pub use Rattle.ghc_flat.specs.Flat.{AreDistinct}

-- In the list, a stands before b.
abbrev pub Precedes : {X : Type 0} → List X → X → X → Type 0
Precedes {X} xs a b = (before between behind : List X) × (xs ≡ before ++ (a ∷ between) ++ (b ∷ behind))

-- Picks P xs ys: ys are those of xs of which P holds, in the order of xs.
pub data Picks {X : Type 0} (P : X → Type 0) : List X → List X → Type 0 where
  nothing : Picks P [] []
  take : {x : X} {xs ys : List X} → P x → Picks P xs ys → Picks P (x ∷ xs) (x ∷ ys)
  leave : {x : X} {xs ys : List X} → ¬ P x → Picks P xs ys → Picks P (x ∷ xs) ys
