-- Lists in recorded order.
use Rattle.ghc_records.proofs.Words.{◌≡◌, ℕ, ◌<◌, ◌⊎◌, List, [], ◌∷◌, ◌++◌, refl, sym, ap, ◌∙◌, subst, inl, inr, map-append, In, in_right, in_splits, Precedes, Picks, nothing, leave, AreDistinct, Record, numbers}
use Rattle.ghc_records.specs.Orders.{take}

module _ {X : Type 0} where
  -- a stands before b, by cases of the list
  abbrev pub Before : List X → X → X → Type 0
  Before [] a b = ⊥
  Before (x ∷ xs) a b = ((a ≡ x) × In b xs) ⊎ Before xs a b

  before_at : (before between behind : List X) (a b : X) → Before (before ++ (a ∷ between) ++ (b ∷ behind)) a b
  before_at [] between behind a b = inl (refl, in_right between (b ∷ behind) b (inl refl))
  before_at (x ∷ before) between behind a b = inr (before_at before between behind a b)

  pub is_before : (xs : List X) (a b : X) → Precedes xs a b → Before xs a b
  is_before xs a b p = subst (λ ys. Before ys a b) (sym p.3) (before_at p.0 p.1 p.2 a b)

  pub before_is : (xs : List X) (a b : X) → Before xs a b → Precedes xs a b
  before_is [] a b h = absurd h
  before_is (x ∷ xs) a b (inl h) = let s = in_splits xs b h.1 in ([], s.0, s.1, ap (λ z. z ∷ xs) (sym h.0) ∙ ap (λ zs. a ∷ zs) s.2)
  before_is (x ∷ xs) a b (inr h) = let p = before_is xs a b h in (x ∷ p.0, p.1, p.2, ap (λ zs. x ∷ zs) p.3)

  pub before_in : (xs : List X) (a b : X) → Before xs a b → In a xs × In b xs
  before_in [] a b h = absurd h
  before_in (x ∷ xs) a b (inl h) = (inl h.0, inr h.1)
  before_in (x ∷ xs) a b (inr h) = let i = before_in xs a b h in (inr i.0, inr i.1)

  pub before_once : (xs : List X) (a b : X) → AreDistinct xs → Before xs a b → Before xs b a → ⊥
  before_once [] a b d h k = h
  before_once (x ∷ xs) a b d (inl h) (inl k) = d.0 (subst (λ z. In z xs) (k.0) h.1)
  before_once (x ∷ xs) a b d (inl h) (inr k) = d.0 (subst (λ z. In z xs) h.0 (before_in xs b a k).1)
  before_once (x ∷ xs) a b d (inr h) (inl k) = d.0 (subst (λ z. In z xs) k.0 (before_in xs a b h).1)
  before_once (x ∷ xs) a b d (inr h) (inr k) = before_once xs a b d.1 h k

  pub precedes_once : (xs : List X) (a b : X) → AreDistinct xs → Precedes xs a b → Precedes xs b a → ⊥
  precedes_once xs a b d p q = before_once xs a b d (is_before xs a b p) (is_before xs b a q)

  -- what is picked out is determined
  pub picks_once : {P : X → Type 0} (xs ys zs : List X) → Picks P xs ys → Picks P xs zs → ys ≡ zs
  picks_once [] ys zs nothing nothing = refl
  picks_once (x ∷ xs) ys zs (take p a) (take q b) = ap (λ ws. x ∷ ws) (picks_once xs _ _ a b)
  picks_once (x ∷ xs) ys zs (take p a) (leave q b) = absurd (q p)
  picks_once (x ∷ xs) ys zs (leave p a) (take q b) = absurd (p q)
  picks_once (x ∷ xs) ys zs (leave p a) (leave q b) = picks_once xs _ _ a b

  -- f rises along the list
  abbrev pub Above : (X → ℕ) → X → List X → Type 0
  Above f x [] = Unit {0}
  Above f x (y ∷ ys) = (f x < f y) × Above f x ys

  abbrev pub Rises : (X → ℕ) → List X → Type 0
  Rises f [] = Unit {0}
  Rises f (x ∷ xs) = Above f x xs × Rises f xs

  above_in : (f : X → ℕ) (x : X) (ys : List X) (y : X) → Above f x ys → In y ys → f x < f y
  above_in f x [] y h i = absurd i
  above_in f x (z ∷ ys) y h (inl e) = subst (λ w. f x < f w) (sym e) h.0
  above_in f x (z ∷ ys) y h (inr i) = above_in f x ys y h.1 i

  pub before_rises : (f : X → ℕ) (xs : List X) (a b : X) → Rises f xs → Before xs a b → f a < f b
  before_rises f [] a b r h = absurd h
  before_rises f (x ∷ xs) a b r (inl h) = subst (λ w. f w < f b) (sym h.0) (above_in f x xs b r.0 h.1)
  before_rises f (x ∷ xs) a b r (inr h) = before_rises f xs a b r.1 h

  pub precedes_rises : (f : X → ℕ) (xs : List X) (a b : X) → Rises f xs → Precedes xs a b → f a < f b
  precedes_rises f xs a b r p = before_rises f xs a b r (is_before xs a b p)

-- a record of the list has its number among the numbers
pub number_in : (rs : List Record) (r : Record) → In r rs → In r.number (numbers rs)
number_in [] r i = absurd i
number_in (s ∷ rs) r (inl e) = inl (ap (λ t. t.number) e)
number_in (s ∷ rs) r (inr i) = inr (number_in rs r i)

-- the numbers of two lists, one after the other
pub numbers_append : (rs qs : List Record) → numbers (rs ++ qs) ≡ numbers rs ++ numbers qs
numbers_append rs qs = map-append (λ (r : Record). r.number) rs qs

-- a number of the list is that of a record
pub number_of : (rs : List Record) (n : ℕ) → In n (numbers rs) → (r : Record) × In r rs × (r.number ≡ n)
number_of [] n i = absurd i
number_of (s ∷ rs) n (inl e) = (s, inl refl, sym e)
number_of (s ∷ rs) n (inr i) = let p = number_of rs n i in (p.0, inr p.1, p.2)

-- where numbers are distinct, a number has one record
pub record_once : (rs : List Record) (r s : Record) → AreDistinct (numbers rs) → In r rs → In s rs → r.number ≡ s.number → r ≡ s
record_once [] r s d i j e = absurd i
record_once (t ∷ rs) r s d (inl p) (inl q) e = p ∙ sym q
record_once (t ∷ rs) r s d (inl p) (inr j) e = absurd (d.0 (subst (λ n. In n (numbers rs)) (sym e ∙ ap (λ u. u.number) p) (number_in rs s j)))
record_once (t ∷ rs) r s d (inr i) (inl q) e = absurd (d.0 (subst (λ n. In n (numbers rs)) (e ∙ ap (λ u. u.number) q) (number_in rs r i)))
record_once (t ∷ rs) r s d (inr i) (inr j) e = record_once rs r s d.1 i j e

pub records_distinct : (rs : List Record) → AreDistinct (numbers rs) → AreDistinct rs
records_distinct [] d = tt
records_distinct (r ∷ rs) d = (λ i. d.0 (number_in rs r i), records_distinct rs d.1)
