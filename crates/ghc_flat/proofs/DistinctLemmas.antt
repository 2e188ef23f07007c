-- Lists in which no element stands twice, and their parts.
use Rattle.ghc_flat.proofs.Words.{List, [], ◌∷◌, ◌++◌, refl, subst, inl, inr, In, in_left, in_right, AreDistinct}

module _ {X : Type 0} where
  pub distinct_left : (xs ys : List X) → AreDistinct (xs ++ ys) → AreDistinct xs
  distinct_left [] ys d = tt
  distinct_left (x ∷ xs) ys d = (λ i. d.0 (in_left xs ys x i), distinct_left xs ys d.1)

  pub distinct_right : (xs ys : List X) → AreDistinct (xs ++ ys) → AreDistinct ys
  distinct_right [] ys d = d
  distinct_right (x ∷ xs) ys d = distinct_right xs ys d.1

  -- the parts have no element in common
  pub distinct_apart : (xs ys : List X) → AreDistinct (xs ++ ys) → (y : X) → In y xs → ¬ In y ys
  distinct_apart [] ys d y i j = i
  distinct_apart (x ∷ xs) ys d y (inl e) j = d.0 (in_right xs ys x (subst (λ z. In z ys) e j))
  distinct_apart (x ∷ xs) ys d y (inr i) j = distinct_apart xs ys d.1 y i j

  -- an element does not stand in front of itself
  pub distinct_split : (front : List X) (x : X) (back : List X) → AreDistinct (front ++ x ∷ back) → ¬ In x front
  distinct_split front x back d i = distinct_apart front (x ∷ back) d x i (inl refl)
