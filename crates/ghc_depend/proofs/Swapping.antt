-- Lawful orders are those that are reached where neighbours change places.
use Rattle.ghc_depend.proofs.Words.{ℕ, List, [], ◌∷◌, ◌++◌, refl, sym, subst, inl, inr, append_assoc, In, in_left, in_right, in_either, in_splits, AreDistinct, Record, numbers, Before, is_before, before_is, before_in, before_once, records_distinct, Uses, IsLawful, IsInOrder}
use Rattle.ghc_depend.specs.Laws.{SwapsInto, no_swap, one_more_swap, OrdersAreSwaps}
use Rattle.ghc_depend.proofs.Decided.{by_numbers, by_records}
use Rattle.ghc_depend.proofs.Picking.{before_front, before_right, kept_in}
use Rattle.ghc_depend.proofs.Arranging.{swap_before, neighbours_lawful}

module _ {X : Type 0} where
  more_in : (front behind : List X) (x y : X) → In y (front ++ behind) → In y (front ++ x ∷ behind)
  more_in front behind x y i = elim (in_either front behind y i) [ inl j ↦ in_left front (x ∷ behind) y j | inr j ↦ in_right front (x ∷ behind) y (inr j) ]

  before_more : (front behind : List X) (x y z : X) → Before (front ++ behind) y z → Before (front ++ x ∷ behind) y z
  before_more [] behind x y z h = inr h
  before_more (w ∷ front) behind x y z (inl h) = inl (h.0, more_in front behind x z h.1)
  before_more (w ∷ front) behind x y z (inr h) = inr (before_more front behind x y z h)

  without_one : (front behind : List X) (x : X) → AreDistinct (front ++ x ∷ behind) → AreDistinct (front ++ behind) × (¬ In x (front ++ behind))
  without_one [] behind x d = (d.1, d.0)
  without_one (y ∷ front) behind x d =
      let rest = without_one front behind x d.1 in (
        ((λ i. d.0 (more_in front behind x y i)), rest.0),
        λ i. elim i [ inl e ↦ d.0 (subst (λ z. In z (front ++ x ∷ behind)) e (in_right front (x ∷ behind) x (inl refl))) | inr j ↦ rest.1 j ],
      )

module _ {kept : List Record} where
  -- a step that uses nothing of those in front of it comes before them all
  move : (done front behind : List Record) (x : Record) → SwapsInto kept (done ++ (front ++ x ∷ behind)) → ((y : Record) → In y front → ¬ Uses x y)
      → SwapsInto kept (done ++ x ∷ (front ++ behind))
  move done [] behind x s apart = s
  move done (y ∷ front) behind x s apart =
      let deeper = move (done ++ y ∷ []) front behind x (subst (SwapsInto kept) (sym (append_assoc done (y ∷ []) (front ++ x ∷ behind))) s) (λ z i. apart z (inr i)) in
      one_more_swap done (front ++ behind) y x (subst (SwapsInto kept) (append_assoc done (y ∷ []) (x ∷ (front ++ behind))) deeper) (λ d. apart y (inl refl) d.1)

  -- so one step after the other comes to its place
  sorted : (done rest new : List Record) → SwapsInto kept (done ++ rest) → AreDistinct rest → AreDistinct new → ((r : Record) → In r new → In r rest)
      → ((r : Record) → In r rest → In r new) → ((y x : Record) → Before rest y x → Before new x y → ¬ Uses x y) → SwapsInto kept (done ++ new)
  sorted done [] [] s d e to back apart = s
  sorted done (y ∷ rest) [] s d e to back apart = absurd (back y (inl refl))
  sorted done rest (x ∷ new) s d e to back apart =
      let at = in_splits rest x (to x (inl refl)) in
      let front = at.0 in
      let behind = at.1 in
      let distinct : AreDistinct (front ++ x ∷ behind) = subst AreDistinct at.2 d in
      let alone = without_one front behind x distinct in
      let back_new : (r : Record) → In r (front ++ behind) → In r new = λ r i. elim (back r (subst (In r) (sym at.2) (more_in front behind x r i))) [
        | inl same ↦ absurd (alone.1 (subst (λ z. In z (front ++ behind)) same i))
        | inr j ↦ j
      ] in
      let turned : (y z : Record) → Before (front ++ x ∷ behind) y z → Before (x ∷ new) z y → ¬ Uses z y = λ y z h. apart y z (subst (λ l. Before l y z) (sym at.2) h) in
      let moved = move done front behind x (subst (λ z. SwapsInto kept (done ++ z)) at.2 s) (λ y i. turned y x (before_front front behind x y i) (inl (refl, back_new y (in_left front behind y i)))) in
      let rest_sorted = sorted (done ++ x ∷ []) (front ++ behind) new (subst (SwapsInto kept) (sym (append_assoc done (x ∷ []) (front ++ behind))) moved) alone.0 e.1
      (λ r i. kept_in front behind x r (subst (In r) at.2 (to r (inr i))) (λ same. e.0 (subst (λ z. In z new) same i))) back_new
      (λ y z h k. turned y z (before_more front behind x y z h) (inr k)) in
      subst (SwapsInto kept) (append_assoc done (x ∷ []) new) rest_sorted

lawful_by_swaps : (kept : List Record) (order : List ℕ) (new : List Record) → AreDistinct (numbers kept) → IsInOrder kept order new → IsLawful kept order → SwapsInto kept new
lawful_by_swaps kept order new distinct o lawful =
    sorted [] kept new no_swap (records_distinct kept distinct) (records_distinct new (subst AreDistinct (sym o.0) lawful.0.0.1)) (λ r i. (o.1 r).0 i) (λ r i. (o.1 r).1 i)
    (λ y x before after used. lawful.1 y x ((before_is kept y x before, used), before_is order x.number y.number (subst (λ z. Before z x.number y.number) o.0 (by_numbers new x y after))))

-- what swaps lead to is in a lawful order
swaps_lawful : (kept new : List Record) → AreDistinct (numbers kept) → SwapsInto kept new → IsLawful kept (numbers new) × IsInOrder kept (numbers new) new
swaps_lawful kept new distinct no_swap = (
  (
    (((λ n i. i), distinct), (λ n i. i)),
    λ y x early.
        let before = is_before kept y x early.0.0 in
        let i = before_in kept y x before in
        before_once kept y x (records_distinct kept distinct) before (by_records kept x y distinct i.1 i.0 (is_before (numbers kept) x.number y.number early.1)),
  ),
  (refl, λ r. ((λ i. i), (λ i. i))),
)
swaps_lawful kept new distinct (one_more_swap front back a b s apart) =
    let mid = front ++ a ∷ b ∷ back in
    let w = swaps_lawful kept mid distinct s in
    let n = neighbours_lawful front back a b w.0.0.0.1 apart in
    let there : (r : Record) → In r kept → In r new = λ r i. (n.1.1 r).1 ((w.1.1 r).1 i) in (
      (
        (((λ m i. w.0.0.0.0 m (n.0.0.0.0 m i)), n.0.0.0.1), (λ m i. n.0.0.1 m (w.0.0.1 m i))),
        λ y x early.
            let i = before_in kept y x (is_before kept y x early.0.0) in
            elim (swap_before front back a b x y (by_records new x y n.0.0.0.1 (there x i.1) (there y i.0) (is_before (numbers new) x.number y.number early.1))) [
              | inl h ↦ w.0.1 y x (early.0, before_is (numbers mid) x.number y.number (by_numbers mid x y h))
              | inr p ↦ apart (before_is mid a b (before_right front (a ∷ b ∷ back) a b (inl (refl, inl refl))), subst (λ z. Uses z a) p.0 (subst (Uses x) p.1 early.0.1))
            ],
      ),
      (refl, λ r. ((λ i. (w.1.1 r).0 ((n.1.1 r).0 i)), there r)),
    )

pub by_swaps : OrdersAreSwaps
by_swaps kept order new distinct o = (
  lawful_by_swaps kept order new distinct o,
  λ s. subst (IsLawful kept) o.0 (swaps_lawful kept new distinct s).0,
)
