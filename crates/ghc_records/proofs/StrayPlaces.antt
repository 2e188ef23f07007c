-- The places of strays, where the newest stands by itself in front of a tree of the others.
use Rattle.ghc_records.proofs.Words.{◌≡◌, ◌≢◌, ◌<◌, ℕ, cond, List, refl, sym, ap, ◌∙◌, subst, inl, inr, arith, Option, Some, None, nat_cmp, nat_cmp_total, nat_cmp-IsAntisymmetric as nat_antisymmetric, is_eq, value_in, inserted, tie, eq-eqb, ne_eqb, PlacesByNumber, IsChangedAt, places_of, room_beside}
use Rattle.std.specs.FinMap as finite
use Rattle.ghc_records.proofs.NumberSets.{one_or_not}
use Rattle.ghc_records.proofs.SlotPlaces.{places_in, place_is, found_by, updated_by, at_key, at_other}

-- one place more
pub put_here : (m : PlacesByNumber) (k p n : ℕ) → k ≡ n → finite.get (finite.insert m k p) n ≡ Some p
put_here m k p n e = finite.get-insert nat_cmp_total m k p n ∙ ap (λ b. cond b (Some p) (finite.get m n)) (sym (tie n k) ∙ eq-eqb n k (sym e))

pub put_beside : (m : PlacesByNumber) (k p n : ℕ) → n ≢ k → finite.get (finite.insert m k p) n ≡ finite.get m n
put_beside m k p n d = finite.get-insert nat_cmp_total m k p n ∙ ap (λ b. cond b (Some p) (finite.get m n)) (sym (tie n k) ∙ ne_eqb n k d)

-- what the tree finds
pub in_tree : (es : List (ℕ × ℕ)) (n : ℕ) → value_in nat_cmp n es ≡ finite.get (places_in es) n
in_tree es n = found_by es n ∙ place_is es n

-- .. and what is found by itself
module _ (newest : Option (ℕ × ℕ)) (es : List (ℕ × ℕ)) (e : ℕ × ℕ) (n : ℕ) (is : newest ≡ Some e) where
  pub found_newest : e.0 ≡ n → Some e.1 ≡ finite.get (places_of newest es) n
  found_newest same = sym (put_here (places_in es) e.0 e.1 n same) ∙ ap (λ o. finite.get (places_of o es) n) (sym is)

  pub found_older : e.0 ≢ n → value_in nat_cmp n es ≡ finite.get (places_of newest es) n
  found_older d = in_tree es n ∙ sym (put_beside (places_in es) e.0 e.1 n (λ f. d (sym f))) ∙ ap (λ o. finite.get (places_of o es) n) (sym is)

pub found_in_tree : (newest : Option (ℕ × ℕ)) (es : List (ℕ × ℕ)) (n : ℕ) → newest ≡ None → value_in nat_cmp n es ≡ finite.get (places_of newest es) n
found_in_tree newest es n is = in_tree es n ∙ ap (λ o. finite.get (places_of o es) n) (sym is)

-- the newest goes into the tree
pub put_in_tree : (newest : Option (ℕ × ℕ)) (es new : List (ℕ × ℕ)) (e : ℕ × ℕ) → newest ≡ Some e → ((q : ℕ) → value_in nat_cmp q new ≡ cond (is_eq (nat_cmp e.0 q)) (Some e.1) (value_in nat_cmp q es))
    → places_in new ≡ places_of newest es
put_in_tree newest es new e is h = inserted nat_cmp_total nat_antisymmetric es new e.0 e.1 h ∙ ap (λ o. places_of o es) (sym is)

-- one more stands by itself, where none did
pub put_by_itself : (newest : Option (ℕ × ℕ)) (es : List (ℕ × ℕ)) (k p : ℕ) → 0 < room_beside newest → IsChangedAt (places_of newest es) (places_of (Some (k, p)) es) k (Some p)
put_by_itself None es k p room = (put_here (places_in es) k p k refl, put_beside (places_in es) k p)
put_by_itself (Some e) es k p room = absurd (omega (arith, room))

-- a number is taken out of the tree, and what stands by itself is left, or goes where it has the number
abbrev IsWithout : List (ℕ × ℕ) → List (ℕ × ℕ) → ℕ → Type 0
IsWithout es new k = (q : ℕ) → value_in nat_cmp q new ≡ cond (is_eq (nat_cmp k q)) None (value_in nat_cmp q es)

module _ (newest left : Option (ℕ × ℕ)) (es kept new : List (ℕ × ℕ)) (k : ℕ) (same : kept ≡ es) (h : IsWithout kept new k) where
  abbrev IsTaken : Type 0
  IsTaken = IsChangedAt (places_of newest es) (places_of left new) k None

  tree_without : IsChangedAt (places_in es) (places_in new) k None
  tree_without =
      let u = updated_by es new k None (subst (λ l. IsWithout l new k) same h) in
      (at_key es new k None u k refl, at_other es new k None u)

  are : (was now : Option (ℕ × ℕ)) → newest ≡ was → left ≡ now → IsChangedAt (places_of was es) (places_of now new) k None → IsTaken
  are was now e f c = subst (λ o. IsChangedAt (places_of o es) (places_of left new) k None) (sym e) (subst (λ o. IsChangedAt (places_of was es) (places_of o new) k None) (sym f) c)

  pub none_taken : newest ≡ None → left ≡ newest → IsTaken
  none_taken e f = are None None e (f ∙ e) tree_without

  pub newest_taken : (a : ℕ × ℕ) → newest ≡ Some a → a.0 ≡ k → left ≡ None → IsTaken
  newest_taken a e it f = are (Some a) None e f (
    tree_without.0,
    λ n d. tree_without.1 n d ∙ sym (put_beside (places_in es) a.0 a.1 n (λ g. d (g ∙ it))),
  )

  pub older_taken : (a : ℕ × ℕ) → newest ≡ Some a → a.0 ≢ k → left ≡ newest → IsTaken
  older_taken a e other f = are (Some a) (Some a) e (f ∙ e) (
    put_beside (places_in new) a.0 a.1 k (λ g. other (sym g)) ∙ tree_without.0,
    λ n d. elim (one_or_not n a.0) [
      | inl g ↦ put_here (places_in new) a.0 a.1 n (sym g) ∙ sym (put_here (places_in es) a.0 a.1 n (sym g))
      | inr g ↦ put_beside (places_in new) a.0 a.1 n g ∙ tree_without.1 n d ∙ sym (put_beside (places_in es) a.0 a.1 n g)
    ],
  )
