-- Places by number, and a number more or less among them, in a list or in a tree.
use Rattle.ghc_records.proofs.Words.{◌≡◌, ◌≢◌, ℕ, cond, List, [], ◌∷◌, refl, sym, ap, ◌∙◌, nat_eq, Option, Some, slice_get, nat_cmp, nat_cmp_total, nat_cmp-IsAntisymmetric as nat_antisymmetric, lookup, is_eq, value_in, eq-eqb, ne_eqb, value_is, tie, Record, SlotList, PlacesByNumber, StandsIn}
use Rattle.std.specs.FinMap as finite

abbrev pub places_in : List (ℕ × ℕ) → PlacesByNumber
places_in es = finite.from_entries {R = nat_cmp} es

-- what is found under a number
pub place_is : {V : Type 0} (es : List (ℕ × V)) (n : ℕ) → lookup (nat_eq n) es ≡ finite.get (finite.from_entries {R = nat_cmp} es) n
place_is es n = value_is nat_cmp_total nat_antisymmetric nat_eq tie n es

-- a tree compares numbers, and finds under each what stands first under it in the list of its entries
pub found_by : {V : Type 0} (es : List (ℕ × V)) (n : ℕ) → value_in nat_cmp n es ≡ lookup (nat_eq n) es
found_by [] n = refl
found_by (e ∷ es) n = ap (λ b. cond b (Some e.1) (value_in nat_cmp n es)) (sym (tie n e.0)) ∙ ap (λ o. cond (nat_eq n e.0) (Some e.1) o) (found_by es n)

pub updated_by : {V : Type 0} (es new : List (ℕ × V)) (k : ℕ) (o : Option V) → ((q : ℕ) → value_in nat_cmp q new ≡ cond (is_eq (nat_cmp k q)) o (value_in nat_cmp q es))
    → (q : ℕ) → lookup (nat_eq q) new ≡ cond (nat_eq k q) o (lookup (nat_eq q) es)
updated_by es new k o h q =
    sym (found_by new q) ∙ h q ∙ ap (λ b. cond b o (value_in nat_cmp q es)) (sym (tie k q)) ∙ ap (λ p. cond (nat_eq k q) o p) (found_by es q)

-- one slot has one record
pub one_record : (ss : SlotList) (p q : ℕ) (a b : Record) → StandsIn ss p a → StandsIn ss q b → p ≡ q → a ≡ b
one_record ss p q a b x y e = let same : Some (Some a) ≡ Some (Some b) = sym x ∙ ap (λ i. slice_get ss i) e ∙ y in cc

module _ {V : Type 0} (es new : List (ℕ × V)) (k : ℕ) (o : Option V) (u : (q : ℕ) → lookup (nat_eq q) new ≡ cond (nat_eq k q) o (lookup (nat_eq q) es)) where
  pub at_key : (n : ℕ) → n ≡ k → finite.get (finite.from_entries {R = nat_cmp} new) n ≡ o
  at_key n e = sym (place_is new n) ∙ u n ∙ ap (λ b. cond b o (lookup (nat_eq n) es)) (eq-eqb k n (sym e))

  pub at_other : (n : ℕ) → n ≢ k → finite.get (finite.from_entries {R = nat_cmp} new) n ≡ finite.get (finite.from_entries {R = nat_cmp} es) n
  at_other n d = sym (place_is new n) ∙ u n ∙ ap (λ b. cond b o (lookup (nat_eq n) es)) (ne_eqb k n (λ e. d (sym e))) ∙ place_is es n
