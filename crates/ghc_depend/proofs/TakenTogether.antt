-- Steps that are taken away together: a step and its consequences, the last one first.
use Rattle.ghc_depend.proofs.Words.{◌≡◌, ◌⊎◌, ℕ, List, [], ◌∷◌, ◌++◌, refl, sym, ◌∙◌, subst, inl, inr, In, in_right, in_either, Picks, nothing, leave, AreDistinct, Record, numbers, Before, is_before, before_is, before_in, before_once, number_in, number_of, record_once, records_distinct, picks_once, Follows, directly, further, GoesWith, AreConsequencesOf, IsSplitAt, arith}
use Rattle.ghc_records.specs.Orders.{take}
use Rattle.ghc_depend.proofs.Following.{split_closed, known_follows}
use Rattle.ghc_depend.proofs.Once.{same_records}
use Rattle.ghc_depend.proofs.Picking.{before_front, distinct_right, picks_in, picks_has, picks_order, picks_keep, picks_distinct, pick}

module _ {X : Type 0} where
  -- what stands after an element stands in the part after it
  pub stands_behind : (xs front back : List X) (r a : X) → AreDistinct xs → xs ≡ front ++ r ∷ back → Before xs r a → In a back
  stands_behind xs front back r a distinct e before =
      let either = in_either front (r ∷ back) a in
      grind (arith, before_in xs r a before, before_once xs r a distinct, before_once xs r r distinct, before_front front back r a)

  pub apart_behind : (front back : List X) (r : X) → AreDistinct (front ++ r ∷ back) → ¬ In r back
  apart_behind front back r d = (distinct_right front (r ∷ back) d).0

  -- the same is picked where the same holds of each element
  pub picks_as : {P Q : X → Type 0} (xs ys : List X) → ((x : X) → In x xs → P x → Q x) → ((x : X) → In x xs → ¬ P x → ¬ Q x) → Picks P xs ys → Picks Q xs ys
  picks_as [] ys f g nothing = nothing
  picks_as (x ∷ xs) ys f g (take p k) = take (f x (inl refl) p) (picks_as xs _ (λ y i. f y (inr i)) (λ y i. g y (inr i)) k)
  picks_as (x ∷ xs) ys f g (leave p k) = leave (g x (inl refl) p) (picks_as xs _ (λ y i. f y (inr i)) (λ y i. g y (inr i)) k)

  -- what is picked of what was picked
  pub picks_within : {P Q R : X → Type 0} (xs ys zs : List X) → ((x : X) → P x → Q x → R x) → ((x : X) → ¬ P x → ¬ R x) → ((x : X) → ¬ Q x → ¬ R x) → Picks P xs ys → Picks Q ys zs → Picks R xs zs
  picks_within [] ys zs f g h nothing nothing = nothing
  picks_within (x ∷ xs) ys zs f g h (take p k) (take q l) = take (f x p q) (picks_within xs _ _ f g h k l)
  picks_within (x ∷ xs) ys zs f g h (take p k) (leave q l) = leave (h x q) (picks_within xs _ _ f g h k l)
  picks_within (x ∷ xs) ys zs f g h (leave p k) l = leave (g x p) (picks_within xs _ _ f g h k l)

  pub picks_all : {P : X → Type 0} (xs : List X) → ((x : X) → P x) → Picks P xs xs
  picks_all [] f = nothing
  picks_all (x ∷ xs) f = take (f x) (picks_all xs f)

  -- an element and those picked, all of which stand after it
  pub picks_with : {F : X → Type 0} (xs found : List X) (r : X) → AreDistinct xs → In r xs → ((s : X) → F s → Before xs r s) → Picks F xs found → Picks (λ s. (s ≡ r) ⊎ F s) xs (r ∷ found)
  picks_with [] found r d i behind k = absurd i
  picks_with (x ∷ xs) found r d (inl e) behind (take p k) = absurd (elim (behind x p) [
    | inl h ↦ d.0 h.1
    | inr h ↦ d.0 (before_in xs r x h).1
  ])
  picks_with {F} (x ∷ xs) found r d (inl e) behind (leave p k) =
      subst (λ z. Picks (λ s. (s ≡ r) ⊎ F s) (x ∷ xs) (z ∷ found)) (sym e)
      (take (inl (sym e)) (picks_as xs found (λ s i f. inr f) (λ s i n g. elim g [ inl same ↦ d.0 (subst (λ z. In z xs) (same ∙ e) i) | inr f ↦ n f ]) k))
  picks_with (x ∷ xs) found r d (inr i) behind (take p k) = absurd (elim (behind x p) [
    | inl h ↦ d.0 (subst (λ z. In z xs) h.0 i)
    | inr h ↦ d.0 (before_in xs r x h).1
  ])
  picks_with {F} (x ∷ xs) found r d (inr i) behind (leave p k) =
      leave (λ g. elim g [ inl same ↦ d.0 (subst (λ z. In z xs) (sym same) i) | inr f ↦ p f ])
      (picks_with xs found r d.1 i (λ s f. elim (behind s f) [ inl h ↦ absurd (d.0 (subst (λ z. In z xs) h.0 i)) | inr h ↦ h ]) k)

-- a consequence stands after its step
pub before_on : {X : Type 0} (xs : List X) (a b c : X) → AreDistinct xs → Before xs a b → Before xs b c → Before xs a c
before_on [] a b c d h k = absurd h
before_on (x ∷ xs) a b c d h k = grind (arith, d.0, before_in xs a b, before_in xs b c, before_on xs a b c d.1)

pub follows_behind : (kept : List Record) (a b : Record) → AreDistinct kept → Follows kept a b → Before kept a b
follows_behind kept a b d (directly p) = is_before kept a b p.0
follows_behind kept a b d (further {b = c} f p) = before_on kept a c b d (follows_behind kept a c d f) (is_before kept c b p.0)

-- A step and its consequences, in recorded order, part the kept list.
pub split_at : (kept : List Record) (r : Record) (found : List Record) → AreDistinct (numbers kept) → In r kept → Picks (Follows kept r) kept found → (left : List Record) × IsSplitAt kept r (r ∷ found) left
split_at kept r found distinct i k =
    let gone : Picks (GoesWith kept r) kept (r ∷ found) = picks_with kept found r (records_distinct kept distinct) i (λ s f. follows_behind kept r s (records_distinct kept distinct) f) k in
    let left = pick kept (λ s j. elim (picks_has kept (r ∷ found) s gone j) [ inl m ↦ inr (λ n. n (picks_in kept (r ∷ found) s gone m).1) | inr n ↦ inl n ]) in
    (left.0, (gone, left.1))

-- Of a step and its consequences, in recorded order, the step itself is the first.
pub first_gone : (kept : List Record) (r : Record) (gone left : List Record) → AreDistinct (numbers kept) → In r kept → IsSplitAt kept r gone left → (found : List Record) × (gone ≡ r ∷ found)
first_gone kept r gone left distinct i split =
    let found = pick kept (known_follows kept distinct r i) in
    let both = split_at kept r found.0 distinct i found.1 in
    (found.0, picks_once kept gone (r ∷ found.0) split.0 both.1.0)

-- what was found to follow from the number of a kept step, are the consequences of that step
pub found_behind : (kept : List Record) (r : Record) (n : ℕ) (found : List Record) → AreDistinct (numbers kept) → In r kept → n ≡ r.number → AreConsequencesOf kept n found → Picks (Follows kept r) kept found
found_behind kept r n found distinct i e (inl none) = absurd (none.0 r i (sym e))
found_behind kept r n found distinct i e (inr own) =
    subst (λ s. Picks (Follows kept s) kept found) (record_once kept own.0 r distinct own.1.0 i (own.1.1 ∙ e)) own.2

-- Kept records with the numbers that were found are a step's consequences, and part the kept list with it.
pub split_found : (kept : List Record) (r : Record) (n : ℕ) (found rs : List Record) → AreDistinct (numbers kept) → In r kept → n ≡ r.number → AreConsequencesOf kept n found
    → numbers rs ≡ numbers found → ((s : Record) → In s rs → In s kept) → (left : List Record) × IsSplitAt kept r (r ∷ rs) left
split_found kept r n found rs distinct i e own same of_rs =
    let picked = found_behind kept r n found distinct i e own in
    let these : rs ≡ found = same_records kept (λ s t. record_once kept s t distinct) rs found same of_rs (λ s j. (picks_in kept found s picked j).0) in
    split_at kept r rs distinct i (subst (Picks (Follows kept r) kept) (sym these) picked)

-- the numbers of records that were picked, are those of kept ones
pub picked_number : {P : Record → Type 0} (kept found : List Record) (n : ℕ) → Picks P kept found → In n (numbers found) → In n (numbers kept)
picked_number kept found n k i = grind (arith, number_of, number_in, picks_in)

module _ (kept : List Record) (distinct : AreDistinct (numbers kept)) (a : Record) (kept_a : In a kept) (gone left : List Record) (split : IsSplitAt kept a gone left) where
  each : AreDistinct kept
  each = records_distinct kept distinct

  pub gone_distinct : AreDistinct gone
  gone_distinct = records_distinct gone (picks_distinct kept gone split.0 distinct)

  pub gone_kept : (r : Record) → In r gone → In r kept
  gone_kept r i = (picks_in kept gone r split.0 i).0

  -- Where what stands after a step among the gone was taken away, nothing depends on that step.
  pub alone_left : (front back some : List Record) (r : Record) → gone ≡ front ++ r ∷ back → Picks (λ s. ¬ In s back) kept some → (b : Record) → ¬ Follows some r b
  alone_left front back some r e k b (directly d) =
      let here : In r gone = subst (In r) (sym e) (in_right front (r ∷ back) r (inl refl)) in
      let before = is_before some r b d.0 in
      let b_some = (before_in some r b before).1 in
      let b_kept = picks_in kept some b k b_some in
      let with_a : GoesWith kept a b = split_closed kept distinct a kept_a r b (picks_in kept gone r split.0 here).1
      (directly (before_is kept r b (picks_order kept some r b k before), d.1)) in
      elim (picks_has kept gone b split.0 b_kept.0) [
        | inl j ↦ b_kept.1 (stands_behind gone front back r b gone_distinct e (picks_keep kept gone r b each split.0 here j (picks_order kept some r b k before)))
        | inr n ↦ n with_a
      ]
  alone_left front back some r e k b (further {b = c} f d) = alone_left front back some r e k c f

  -- what is not gone is left
  pub rest_left : (some : List Record) → Picks (λ s. ¬ In s gone) kept some → some ≡ left
  rest_left some k = picks_once kept some left k (picks_as kept left
      (λ s i n j. n (picks_in kept gone s split.0 j).1)
      (λ s i nn none. nn (λ g. elim (picks_has kept gone s split.0 i) [ inl j ↦ none j | inr n ↦ n g ])) split.1)
