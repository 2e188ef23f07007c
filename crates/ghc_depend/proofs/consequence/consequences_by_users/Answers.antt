use Rattle.ghc_depend.proofs.Words.{◌≡◌, ℕ, ◌+◌, ◌<◌, ◌⊎◌, true, false, List, [], ◌∷◌, ◌++◌, length, map, Result, Ok, Err, refl, sym, ap, ◌∙◌, subst, inl, inr, arith, ◌↔◌, option_copied, OnErr, In, AreDistinct, Record, numbers, held_in, rank, rank_stands, some_of, IsKeptAs, AreConsequencesOf, IsPlaceOfUser, StepDependsOn}
use Rattle.std.proofs.Common.{length-append}
use Rattle.ghc_depend.proofs.Ahead.{IsGathered, users_ranked, behind_ranked, gather_begin, gather_next, gather_fewer, gather_end, all_behind, places_all}
use Rattle.ghc_depend.proofs.consequence.consequences_by_users.Goals as goal

pub loop-place-init : goal.loop-place-init
loop-place-init c =
    let ss = c.args.records.now.slots in
    let kept = held_in ss in
    let n = c.args.number in
    let distinct = subst (λ l. AreDistinct (numbers l)) c.len-count.ensures.slots c.len-count.ensures.distinct in
    let a = subst (λ l. (r : Record) × IsKeptAs l n r) c.len-count.ensures.slots c.requires in
    let new = c.add_places.new.ahead.keys in
    let told = subst (λ l. (m : ℕ) → In m c.in-Some.users.now ↔ StepDependsOn l m n) c.len-count.ensures.slots c.in-Some.ensures.users in
    let users = subst (λ ks. (p : ℕ) → In p new ↔ (In p ks ⊎ IsPlaceOfUser ss n p)) c.new-ahead.ensures.empty (places_all ss c.in-Some.users.now n c.new-ahead.result.keys new told c.in_ok-add_places.ensures) in (
      a.0,
      a.1,
      subst (λ l. IsGathered kept a.0 (map (rank ss) new) l) (sym c.new-found.ensures.items)
          (gather_begin kept distinct a.0 a.1.0 (map (rank ss) new) (users_ranked ss a.0.number [] new (subst (λ m. (p : ℕ) → In p new ↔ (In p [] ⊎ IsPlaceOfUser ss m p)) (sym a.1.1) users))),
      λ p j. elim ((users p).0 j) [ inl never ↦ absurd never | inr u ↦ (u.0, u.1) ],
    )

pub unwrap-requires : goal.unwrap-requires
unwrap-requires c =
    let place = c.in-Some-pop_first.place in
    let b = c.loop-place.invariant.3 place (subst (In place) (sym c.in-Some-pop_first.ensures.removal) (inl refl)) in
    some_of c.at.result b.0 ((c.at.ensures b.0).1 b.1)

pub loop-place-smaller : goal.loop-place-smaller
loop-place-smaller c =
    let ss = c.args.records.now.slots in
    let kept = held_in ss in
    let distinct = subst (λ l. AreDistinct (numbers l)) c.len-count.ensures.slots c.len-count.ensures.distinct in
    let place = c.in-Some-pop_first.place in
    let rest = c.pop_first.new.self.keys in
    let b = c.unwrap.result.now in
    let stands = (c.at.ensures b).0 (ap option_copied c.unwrap.ensures) in
    let removal = ap (λ l. map (rank ss) l) c.in-Some-pop_first.ensures.removal in
    let behind = behind_ranked ss place b stands rest (all_behind place rest c.in-Some-pop_first.ensures.all_above) in
    let fewer = gather_fewer kept distinct c.loop-place.invariant.0 (map (rank ss) c.loop-place.ahead.keys) (map (rank ss) rest) c.loop-place.found.items c.loop-place.invariant.2 (rank ss place) b removal behind (rank_stands ss place b stands) in
    let longer : length c.push.new.self.items ≡ length c.loop-place.found.items + 1 = ap (λ l. length l) c.in_ok-push.ensures.items ∙ length-append c.loop-place.found.items (c.number-next.result ∷ []) in
    let same : length c.args.records.now.held ≡ length kept = ap (λ l. length l) c.len-count.ensures.slots in
    omega (arith, fewer, longer, same)

pub loop-place-preserved : goal.loop-place-preserved
loop-place-preserved c =
    let ss = c.args.records.now.slots in
    let kept = held_in ss in
    let distinct = subst (λ l. AreDistinct (numbers l)) c.len-count.ensures.slots c.len-count.ensures.distinct in
    let a = c.loop-place.invariant.0 in
    let place = c.in-Some-pop_first.place in
    let rest = c.pop_first.new.self.keys in
    let b = c.unwrap.result.now in
    let stands = (c.at.ensures b).0 (ap option_copied c.unwrap.ensures) in
    let removal = ap (λ l. map (rank ss) l) c.in-Some-pop_first.ensures.removal in
    let behind = behind_ranked ss place b stands rest (all_behind place rest c.in-Some-pop_first.ensures.all_above) in
    let new = c.add_places-in-Some-pop_first.new.ahead.keys in
    let told = subst (λ l. (m : ℕ) → In m c.in-Some-users_of.later.now ↔ StepDependsOn l m c.number-next.result) c.len-count.ensures.slots c.in-Some-users_of.ensures.users in
    let users = subst (λ n. (p : ℕ) → In p new ↔ (In p rest ⊎ IsPlaceOfUser ss n p)) c.number-next.ensures (places_all ss c.in-Some-users_of.later.now c.number-next.result rest new told c.in_ok-add_places-2.ensures) in
    let items : c.push.new.self.items ≡ c.loop-place.found.items ++ b.number ∷ [] = c.in_ok-push.ensures.items ∙ ap (λ n. c.loop-place.found.items ++ n ∷ []) c.number-next.ensures in (
      a,
      c.loop-place.invariant.1,
      subst (λ l. IsGathered kept a (map (rank ss) new) l) (sym items)
          (gather_next kept distinct a (map (rank ss) c.loop-place.ahead.keys) (map (rank ss) rest) c.loop-place.found.items c.loop-place.invariant.2 (rank ss place) b removal behind (rank_stands ss place b stands) (map (rank ss) new) (users_ranked ss b.number rest new users)),
      λ p j. elim ((users p).0 j) [ inl k ↦ c.loop-place.invariant.3 p (subst (In p) (sym c.in-Some-pop_first.ensures.removal) (inr k)) | inr u ↦ (u.0, u.1) ],
    )

nothing_left : (ks : List ℕ) → (0 < length ks → false ≡ true) → ks ≡ []
nothing_left [] h = refl
nothing_left (k ∷ ks) h = absurd (let clash : false ≡ true = h (omega arith) in cc)

pub returns-clause-found : goal.returns-clause-found
returns-clause-found c =
    let ss = c.args.records.now.slots in
    let kept = held_in ss in
    let distinct = subst (λ l. AreDistinct (numbers l)) c.len-count.ensures.slots c.len-count.ensures.distinct in
    let a = c.loop-place.invariant.0 in
    let none = ap (λ l. map (rank ss) l) (nothing_left c.loop-place.ahead.keys c.in_default-pop_first.ensures.variant.1) in
    let end = gather_end kept distinct a (map (rank ss) c.loop-place.ahead.keys) c.loop-place.found.items c.loop-place.invariant.2 none in
    subst (λ l. (found : List Record) × AreConsequencesOf l c.args.number found × (numbers found ≡ c.loop-place.found.items)) (sym c.len-count.ensures.slots) (end.0, inr (a, c.loop-place.invariant.1, end.1), end.2)
