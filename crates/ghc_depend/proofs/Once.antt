-- Orders and consequences are determined.
use Rattle.ghc_depend.proofs.Words.{◌≡◌, ℕ, List, [], ◌∷◌, ◌++◌, refl, sym, ap, ◌∙◌, subst, inl, inr, In, in_right, compare_splits, AreDistinct, Record, numbers, precedes_once, picks_once, number_in, record_once, records_distinct, IsFirstConsequence, IsOfKept, IsOrderOf, IsTooEarly, IsLawful, IsFirstWrong, IsFirstMissing, IsFirstTooEarly, IsUnlawful, wrong, missing, too_early, OrdersHaveOneAnswer, ConsequencesHaveOneAnswer, arith}
use Rattle.ghc_depend.proofs.Finding.{ends}
use Rattle.ghc_depend.proofs.Picking.{distinct_split}

-- at a number of an order of kept ones, it is kept and new
none_wrong : (kept : List Record) (order : List ℕ) (s : ℕ) → IsOfKept kept order → ¬ IsFirstWrong kept order s
none_wrong kept order s k f = elim f.not_new [
  | inl n ↦ n (k.0 s (subst (In s) (sym f.splits) (in_right f.front (s ∷ f.behind) s (inl refl))))
  | inr i ↦ distinct_split f.front s f.behind (subst AreDistinct f.splits k.1) i
]

-- an order that has each kept number misses none
none_missing : (kept : List Record) (order : List ℕ) (r : Record) → IsOrderOf kept order → ¬ IsFirstMissing kept order r
none_missing kept order r o f = f.absent (o.1 r.number (number_in kept r (subst (In r) (sym f.splits) (in_right f.front (r ∷ f.behind) r (inl refl)))))

wrong_once : (kept : List Record) (order : List ℕ) (s t : ℕ) → IsFirstWrong kept order s → IsFirstWrong kept order t → s ≡ t
wrong_once kept order s t f g = elim (compare_splits f.front g.front s t f.behind g.behind (sym f.splits ∙ g.splits)) [
  | inl p ↦ p.1
  | inr (inl p) ↦ absurd (none_wrong kept g.front s g.before (record { front = f.front; behind = p.0; splits = p.1; before = f.before; not_new = f.not_new }))
  | inr (inr p) ↦ absurd (none_wrong kept f.front t f.before (record { front = g.front; behind = p.0; splits = p.1; before = g.before; not_new = g.not_new }))
]

-- what is missing is not in front of what is missing first
not_in_front : (kept : List Record) (order : List ℕ) (r s : Record) (f : IsFirstMissing kept order r) (g : IsFirstMissing kept order s) (more : List Record) → ¬ (g.front ≡ f.front ++ r ∷ more)
not_in_front kept order r s f g more e = f.absent (g.before r.number (number_in g.front r (subst (In r) (sym e) (in_right f.front (r ∷ more) r (inl refl)))))

missing_once : (kept : List Record) (order : List ℕ) (r s : Record) → IsFirstMissing kept order r → IsFirstMissing kept order s → r ≡ s
missing_once kept order r s f g = elim (compare_splits f.front g.front r s f.behind g.behind (sym f.splits ∙ g.splits)) [
  | inl p ↦ p.1
  | inr (inl p) ↦ absurd (not_in_front kept order r s f g p.0 p.1)
  | inr (inr p) ↦ absurd (not_in_front kept order s r g f p.0 p.1)
]

-- records with the same numbers are the same, where a number has one record
pub same_records : (kept : List Record) → ((r s : Record) → In r kept → In s kept → r.number ≡ s.number → r ≡ s)
    → (xs ys : List Record) → numbers xs ≡ numbers ys → ((r : Record) → In r xs → In r kept) → ((r : Record) → In r ys → In r kept) → xs ≡ ys
same_records kept one [] [] e p q = refl
same_records kept one [] (y ∷ ys) e p q = cc
same_records kept one (x ∷ xs) [] e p q = cc
same_records kept one (x ∷ xs) (y ∷ ys) e p q =
    let first : x ≡ y = one x y (p x (inl refl)) (q y (inl refl)) (cc) in
    let rest : xs ≡ ys = same_records kept one xs ys (cc) (λ r i. p r (inr i)) (λ r i. q r (inr i)) in
    λ i. first i ∷ rest i

module _ (kept : List Record) (distinct : AreDistinct (numbers kept)) where
  early_once : (order : List ℕ) (a b c d : Record) → IsFirstTooEarly kept order a b → IsFirstTooEarly kept order c d → (a ≡ c) × (b ≡ d)
  early_once order a b c d f g = elim (compare_splits f.front g.front b.number d.number f.behind g.behind (sym f.splits ∙ g.splits)) [
    | inl k ↦
        let same : b ≡ d = record_once kept b d distinct (ends kept b a f.early.0).1 (ends kept d c g.early.0).1 k.1 in
        let one_way = f.first c (subst (IsTooEarly kept order c) (sym same) g.early) in
        let other_way = g.first a (subst (IsTooEarly kept order a) same f.early) in
        let first : a ≡ c = grind (arith, precedes_once kept a c (records_distinct kept distinct)) in
        (first, same)
    | inr (inl k) ↦ absurd (g.before a b (subst (In b.number) (sym k.1) (in_right f.front (b.number ∷ k.0) b.number (inl refl))) f.early)
    | inr (inr k) ↦ absurd (f.before c d (subst (In d.number) (sym k.1) (in_right g.front (d.number ∷ k.0) d.number (inl refl))) g.early)
  ]

  no_pair : (order : List ℕ) (a b : ℕ) → IsLawful kept order → ¬ IsUnlawful kept order a b
  no_pair order a b l (wrong f) = none_wrong kept order a l.0.0 f
  no_pair order a b l (missing {r = r} k f) = none_missing kept order r l.0 f
  no_pair order a b l (too_early {a = c} {b = d} o f) = l.1 c d f.early

  one_pair : (order : List ℕ) (a b c d : ℕ) → IsUnlawful kept order a b → IsUnlawful kept order c d → (a ≡ c) × (b ≡ d)
  one_pair order a b c d (wrong f) (wrong g) = let same = wrong_once kept order a c f g in (same, same)
  one_pair order a b c d (wrong f) (missing k g) = absurd (none_wrong kept order a k f)
  one_pair order a b c d (wrong f) (too_early o g) = absurd (none_wrong kept order a o.0 f)
  one_pair order a b c d (missing k f) (wrong g) = absurd (none_wrong kept order c k g)
  one_pair order a b c d (missing {r = r} k f) (missing {r = s} l g) = (ap (λ (x : Record). x.number) (missing_once kept order r s f g), refl)
  one_pair order a b c d (missing {r = r} k f) (too_early o g) = absurd (none_missing kept order r o f)
  one_pair order a b c d (too_early o f) (wrong g) = absurd (none_wrong kept order c o.0 g)
  one_pair order a b c d (too_early o f) (missing {r = r} k g) = absurd (none_missing kept order r o g)
  one_pair order a b c d (too_early {a = p} {b = q} o f) (too_early {a = x} {b = y} k g) =
      let same = early_once order p q x y f g in
      (ap (λ (z : Record). z.number) same.0, ap (λ (z : Record). z.number) same.1)

  one_first : (r b c : Record) → IsFirstConsequence kept r b → IsFirstConsequence kept r c → b ≡ c
  one_first r b c p q = grind (arith, p.1 c q.0, q.1 b p.0, precedes_once kept b c (records_distinct kept distinct))

pub orders : OrdersHaveOneAnswer
orders kept distinct = record {
  no_pair = no_pair kept distinct;
  one_pair = one_pair kept distinct;
  one_record = λ order new other p q. same_records kept (λ r s. record_once kept r s distinct) new other (p.0 ∙ sym q.0) (λ r. (p.1 r).0) (λ r. (q.1 r).0);
}

pub consequences : ConsequencesHaveOneAnswer
consequences kept r distinct = record {
  one_first = one_first kept distinct r;
  one_split = λ gone left far rest p q. (picks_once kept gone far p.0 q.0, picks_once kept left rest p.1 q.1);
}
