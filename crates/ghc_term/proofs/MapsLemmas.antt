-- Maps from variables: what they hold, and the lists of their bindings.
use Rattle.ghc_term.proofs.Words.{◌≡◌, ℕ, zero, suc, ◌-◌, ◌<◌, Bool, true, false, cond, List, [], ◌∷◌, length, map, refl, sym, ap, ◌∙◌, subst, inl, inr, arith, ◌↔◌, Option, Some, None, is_some, IfSome, slice_get, Ordering, eq_by_cmp, IsTotalOrder, eq_by_cmp_equiv, IsAntisymmetric, tells_apart, VarName, name_cmp, In, StoreValue, value_at, Tree, IsWithin}
use Rattle.std.specs.List.{IsDistinct}
use Rattle.std.specs.FinMap as finite
use Rattle.ghc_term.proofs.Names.{name_total, name_antisymmetric, same_name}
use Rattle.ghc_term.proofs.Entries.{same, same_is}
use Rattle.ghc_term.proofs.Indexed.{counted}

same_answer : (o p : Option Tree) → ((t : Tree) → o ≡ Some t → p ≡ Some t) → ((t : Tree) → p ≡ Some t → o ≡ Some t) → o ≡ p
same_answer (Some t) p f g = sym (f t refl)
same_answer None (Some t) f g = g t refl
same_answer None None f g = refl

-- a map is given by what it holds
pub one_map : (m n : StoreValue) (P : VarName → Tree → Type 0) → ((y : VarName) (t : Tree) → (value_at m y ≡ Some t) ↔ P y t) → ((y : VarName) (t : Tree) → (value_at n y ≡ Some t) ↔ P y t) → m ≡ n
one_map m n P p q = finite.same_map name_total name_antisymmetric m n (λ y.
    same_answer (value_at m y) (value_at n y) (λ t e. (q y t).1 ((p y t).0 e)) (λ t e. (p y t).1 ((q y t).0 e)))

-- a map whose bindings all stand in another one of the same size is that map
without : {X : Type 0} (b : Bool) (u : Option X) (v : X) → cond b None u ≡ Some v → (b ≡ false) × (u ≡ Some v)
without true u v e = cc
without false u v e = (refl, e)

module _ {K X : Type 0} {R : K → K → Ordering} (o : IsTotalOrder R) (alike : IsAntisymmetric R) where
  abbrev pub Within : finite.FinMap R X → finite.FinMap R X → Type 0
  Within a b = (q : K) (v : X) → finite.get a q ≡ Some v → finite.get b q ≡ Some v

  one_less : (n : ℕ) (a : finite.FinMap R X) (k : K) (v : X) → finite.get a k ≡ Some v → finite.len a ≡ suc n → finite.len (finite.remove a k) ≡ n
  one_less n a k v e p =
      let less : finite.len (finite.remove a k) ≡ finite.len a - 1 = finite.len-remove o a k ∙ ap (λ u. cond (is_some u) (finite.len a - 1) (finite.len a)) e in
      omega (arith, less, p)

  still_within : (a b : finite.FinMap R X) (k : K) → Within a b → Within (finite.remove a k) (finite.remove b k)
  still_within a b k h q v e =
      let p = without (eq_by_cmp R q k) (finite.get a q) v (sym (finite.get-remove o a k q) ∙ e) in
      finite.get-remove o b k q ∙ ap (λ c. cond c None (finite.get b q)) p.0 ∙ h q v p.1

  same_beside : (a b : finite.FinMap R X) (k : K) (v : X) → finite.get a k ≡ Some v → finite.get b k ≡ Some v → finite.remove a k ≡ finite.remove b k → a ≡ b
  same_beside a b k v e f rest = finite.same_map o alike a b (λ q.
      elim (eq_by_cmp R q k) as (λ c. eq_by_cmp R q k ≡ c → finite.get a q ≡ finite.get b q) [
        | true ↦ λ p. let is : q ≡ k = tells_apart alike q k p in ap (finite.get a) is ∙ e ∙ sym f ∙ ap (finite.get b) (sym is)
        | false ↦ λ p.
            ap (λ c. cond c None (finite.get a q)) (sym p) ∙ sym (finite.get-remove o a k q) ∙ ap (λ m. finite.get m q) rest
            ∙ finite.get-remove o b k q ∙ ap (λ c. cond c None (finite.get b q)) p
      ] refl)

  first_there : (a : finite.FinMap R X) (e : K × X) (es : List (K × X)) → finite.entries a ≡ e ∷ es → finite.get a e.0 ≡ Some e.1
  first_there a e es h = finite.get-entries a e.0 ∙ ap (finite.find R e.0) h ∙ ap (λ c. cond c (Some e.1) (finite.find R e.0 es)) ((eq_by_cmp_equiv o).refl e.0)

  pub whole : (n : ℕ) (a b : finite.FinMap R X) → finite.len a ≡ n → finite.len b ≡ n → Within a b → a ≡ b
  whole zero a b p q h = finite.empty_of_len a p ∙ sym (finite.empty_of_len b q)
  whole (suc n) a b p q h =
      elim (finite.entries a) as (λ es. finite.entries a ≡ es → a ≡ b) [
        | [] ↦ λ e. absurd (omega (arith, p, finite.len-entries a, ap length e))
        | x ∷ es ↦ λ e.
            let here = first_there a x es e in
            let there = h x.0 x.1 here in
            same_beside a b x.0 x.1 here there
            (whole n (finite.remove a x.0) (finite.remove b x.0) (one_less n a x.0 x.1 here p) (one_less n b x.0 x.1 there q) (still_within a b x.0 h))
      ] refl

pub entries_len : (es : List (VarName × Tree)) → IsDistinct same (map (λ (e : VarName × Tree). e.0) es) → finite.len (finite.from_entries {R = name_cmp} es) ≡ length es
entries_len = counted name_total name_antisymmetric same same_is

-- a binding that is found has a place
pub place_of : (x : VarName) (t : Tree) (es : List (VarName × Tree)) → finite.find name_cmp x es ≡ Some t → (i : ℕ) × (i < length es) × (slice_get es i ≡ Some (x, t))
place_of x t [] e = cc
place_of x t (p ∷ es) e =
    elim (eq_by_cmp name_cmp x p.0) as (λ b. eq_by_cmp name_cmp x p.0 ≡ b → cond b (Some p.1) (finite.find name_cmp x es) ≡ Some t → (i : ℕ) × (i < length (p ∷ es)) × (slice_get (p ∷ es) i ≡ Some (x, t))) [
      | true ↦ λ same found.
          let names : x ≡ p.0 = same_name x p.0 same in
          let values : p.1 ≡ t = cc in
          (0, omega arith, λ i. Some (sym names i, values i))
      | false ↦ λ _ found. let rest = place_of x t es found in (suc rest.0, omega (arith, rest.1), rest.2)
    ] refl e

-- maps of the same size, of which the one is within the other
pub same_bindings : (a b : StoreValue) → finite.len a ≡ finite.len b → IsWithin a b → a ≡ b
same_bindings a b e h = whole name_total name_antisymmetric (finite.len b) a b e refl h

-- a variable that is bound is one of the names
pub key_in : (es : List (VarName × Tree)) (x : VarName) → is_some (finite.find name_cmp x es) ≡ true → In x (map (λ e. e.0) es)
key_in [] x e = cc
key_in (k ∷ es) x e =
    elim (eq_by_cmp name_cmp x k.0) as (λ c. eq_by_cmp name_cmp x k.0 ≡ c → is_some (cond c (Some k.1) (finite.find name_cmp x es)) ≡ true → In x (map (λ e. e.0) (k ∷ es))) [
      | true ↦ λ p q. inl (same_name x k.0 p)
      | false ↦ λ p q. inr (key_in es x q)
    ] refl e

-- what holds of a value that is there
pub at_some : {A : Type 0} (P : A → Type 0) (r : Option A) (x : A) → r ≡ Some x → IfSome r P → P x
at_some P None x e h = let clash : None ≡ Some x = e in cc
at_some P (Some y) x e h = let same_value : y ≡ x = cc in subst P same_value h
