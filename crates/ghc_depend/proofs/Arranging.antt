-- A lawful order of a replay replays to the same state, and so do two neighbouring steps that change places.
use Rattle.ghc_depend.proofs.Words.{◌≡◌, ◌↔◌, ℕ, ◌⊎◌, List, [], ◌∷◌, ◌++◌, refl, sym, subst, inl, inr, In, in_either, AreDistinct, Record, numbers, Replays, Before, is_before, before_is, before_in, before_once, number_in, number_of, records_distinct, replay_well, DependsOn, IsLawful, IsInOrder, LawfulOrderKeepsReplay, NeighboursChangePlaces, arith}
use Rattle.ghc_depend.proofs.Decided.{by_numbers, by_records}
use Rattle.ghc_depend.proofs.Picking.{behind_before}
use Rattle.ghc_depend.proofs.Placing.{results_of}
use Rattle.ghc_depend.proofs.Working.{StandBehind, works}
use Rattle.ghc_depend.proofs.Comparing.{same_state}

-- in a lawful order each step stands after all on which it depends
lawful_behind : (kept : List Record) (order : List ℕ) (new : List Record) → AreDistinct kept → IsLawful kept order → IsInOrder kept order new → StandBehind kept new
lawful_behind kept order new distinct lawful o front back r a e d =
    let before = is_before kept a r d.0 in
    elim (in_either front (r ∷ back) a (subst (In a) e ((o.1 a).1 (before_in kept a r before).0))) [
      | inl i ↦ i
      | inr (inl same) ↦ let again = subst (λ z. Before kept z r) same before in absurd (before_once kept r r distinct again again)
      | inr (inr i) ↦
          let turned : Before new r a = subst (λ z. Before z r a) (sym e) (behind_before front back r a i) in
          absurd (lawful.1 a r (d, before_is order r.number a.number (subst (λ z. Before z r.number a.number) o.0 (by_numbers new r a turned))))
    ]

pub arranged : LawfulOrderKeepsReplay
arranged P query kept t order new accepted asked replay lawful o =
    let w = works P query kept t replay (replay_well P query kept t accepted asked replay).acyclic new (λ r i. (o.1 r).0 i) (subst AreDistinct (sym o.0) lawful.0.0.1)
    (lawful_behind kept order new (records_distinct kept replay.0.1) lawful o) in
    subst (Replays P query new) (sym (same_state query kept new t w.0 (results_of P query kept t replay) w.2 (λ r i. (o.1 r).1 i) (λ r i. (o.1 r).0 i))) w.1

module _ {X : Type 0} where
  -- two neighbours that change places
  swap_in : (front back : List X) (a b x : X) → In x (front ++ a ∷ b ∷ back) → In x (front ++ b ∷ a ∷ back)
  swap_in [] back a b x i = grind arith
  swap_in (y ∷ front) back a b x i = grind (arith, swap_in front back a b x)

  pub swap_before : (front back : List X) (a b x y : X) → Before (front ++ b ∷ a ∷ back) x y → Before (front ++ a ∷ b ∷ back) x y ⊎ ((x ≡ b) × (y ≡ a))
  swap_before [] back a b x y h = grind arith
  swap_before (z ∷ front) back a b x y h = grind (arith, swap_in front back b a y, swap_before front back a b x y)

swap_distinct : (front back : List Record) (a b : Record) → AreDistinct (numbers (front ++ a ∷ b ∷ back)) → AreDistinct (numbers (front ++ b ∷ a ∷ back))
swap_distinct [] back a b d = ((λ i. elim i [ inl e ↦ d.0 (inl (sym e)) | inr j ↦ d.1.0 j ]), ((λ i. d.0 (inr i)), d.1.1))
swap_distinct (r ∷ front) back a b d = (
  (λ i.
      let q = number_of (front ++ b ∷ a ∷ back) r.number i in
      d.0 (subst (λ n. In n (numbers (front ++ a ∷ b ∷ back))) q.2 (number_in (front ++ a ∷ b ∷ back) q.0 (swap_in front back b a q.0 q.1)))),
  swap_distinct front back a b d.1,
)

-- where they do not depend on each other, the record with them the other way round is in a lawful order
pub neighbours_lawful : (front back : List Record) (a b : Record) → AreDistinct (numbers (front ++ a ∷ b ∷ back)) → ¬ DependsOn (front ++ a ∷ b ∷ back) b a
    → IsLawful (front ++ a ∷ b ∷ back) (numbers (front ++ b ∷ a ∷ back))
    × IsInOrder (front ++ a ∷ b ∷ back) (numbers (front ++ b ∷ a ∷ back)) (front ++ b ∷ a ∷ back)
neighbours_lawful front back a b once apart =
    let kept = front ++ a ∷ b ∷ back in
    let new = front ++ b ∷ a ∷ back in
    let distinct = swap_distinct front back a b once in
    let same : (r : Record) → In r new ↔ In r kept = λ r. (swap_in front back b a r, swap_in front back a b r) in
    let of_kept : (n : ℕ) → In n (numbers new) → In n (numbers kept) = λ n i.
    let q = number_of new n i in
    subst (λ z. In z (numbers kept)) q.2 (number_in kept q.0 ((same q.0).0 q.1)) in
    let all : (n : ℕ) → In n (numbers kept) → In n (numbers new) = λ n i.
    let q = number_of kept n i in
    subst (λ z. In z (numbers new)) q.2 (number_in new q.0 ((same q.0).1 q.1)) in (
      (
        ((of_kept, distinct), all),
        λ x y early.
            let ends = is_before kept x y early.0.0 in
            let i = before_in kept x y ends in
            elim (swap_before front back a b y x (by_records new y x distinct ((same y).1 i.1) ((same x).1 i.0) (is_before (numbers new) y.number x.number early.1))) [
              | inl turned ↦ before_once kept x y (records_distinct kept once) ends turned
              | inr p ↦ apart (subst (λ z. DependsOn kept z a) p.0 (subst (DependsOn kept y) p.1 early.0))
            ],
      ),
      (refl, same),
    )

pub neighbours : NeighboursChangePlaces
neighbours P query front back a b t accepted asked replay apart =
    let l = neighbours_lawful front back a b replay.0.1 apart in
    arranged P query (front ++ a ∷ b ∷ back) t (numbers (front ++ b ∷ a ∷ back)) (front ++ b ∷ a ∷ back) accepted asked replay l.0 l.1
