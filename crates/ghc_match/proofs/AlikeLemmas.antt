-- What is seen of a term at its top.
use Rattle.ghc_match.proofs.Words.{◌≡◌, ◌≢◌, ℕ, Bool, true, false, List, [], ◌∷◌, length, refl, sym, ap, ◌∙◌, subst, arith, nat_eq, ◌↔◌, IsTrue, codes, bytes_eq, Bor, bytes_eq-Decides, TermView, Var, Atom, Struct, VarName, Tree, node, trees, list_of, IsValue, shown, HasArgument, AreAlike, IsAtom, IsList, eqb-true, eq-eqb}
use Rattle.ghc_match.proofs.Positions.{back_again}

-- structures of one name are alike where they have as many arguments
pub alike_structures : (l r : Tree) (f g : List ℕ) (ts us : List Tree) → node f (trees ts) ≡ l → node g (trees us) ≡ r → f ≡ g → IsTrue (nat_eq (length ts) (length us)) ↔ AreAlike l r
alike_structures l r f g ts us p q e = subst (λ z. IsTrue (nat_eq (length ts) (length us)) ↔ AreAlike z r) p (subst (λ z. IsTrue (nat_eq (length ts) (length us)) ↔ AreAlike (node f (trees ts)) z) q (
  λ h. (e, ap length (sym (back_again ts)) ∙ eqb-true (length ts) (length us) h ∙ ap length (back_again us)),
  λ a. eq-eqb (length ts) (length us) (ap length (back_again ts) ∙ a.1 ∙ ap length (sym (back_again us))),
))

no_arguments : (ts : List Tree) → ts ≢ [] → ¬ (0 ≡ length (list_of (trees ts)))
no_arguments [] n e = n refl
no_arguments (t ∷ ts) n e = cc

-- an atom is not alike to what is no atom
pub atom_unlike : (v : TermView) (l r : Tree) (f : List ℕ) → node f (trees []) ≡ l → shown v ≡ r → HasArgument v → ((g : Bor (List ℕ)) → v ≢ Atom g) → ¬ AreAlike l r
atom_unlike v l r f p q a n k = by v a n (subst (λ z. AreAlike (node f (trees [])) z) (sym q) (subst (λ z. AreAlike z r) (sym p) k)) where
  by : (v : TermView) → HasArgument v → ((g : Bor (List ℕ)) → v ≢ Atom g) → ¬ AreAlike (node f (trees [])) (shown v)
  by (Atom g) a n k = n g refl
  by (Struct g us) a n k = no_arguments us.now a k.1
  by _ a n k = k

-- nor a structure to what is none
pub structure_unlike : (v : TermView) (l r : Tree) (f : List ℕ) (ts : List Tree) → node f (trees ts) ≡ l → ts ≢ [] → shown v ≡ r → ((g : Bor (List ℕ)) (us : Bor (List Tree)) → v ≢ Struct g us) → ¬ AreAlike l r
structure_unlike v l r f ts p a q n k = by v n (subst (λ z. AreAlike (node f (trees ts)) z) (sym q) (subst (λ z. AreAlike z r) (sym p) k)) where
  by : (v : TermView) → ((g : Bor (List ℕ)) (us : Bor (List Tree)) → v ≢ Struct g us) → ¬ AreAlike (node f (trees ts)) (shown v)
  by (Atom g) n k = no_arguments ts a (sym k.1)
  by (Struct g us) n k = n g us refl
  by _ n k = k

-- what is not lent as an atom is none
pub no_atom : (v : TermView) → HasArgument v → ((f : Bor (List ℕ)) → v ≢ Atom f) → ¬ IsAtom (shown v)
no_atom (Atom f) a n k = n f refl
no_atom (Struct f ts) a n k = by ts.now a k where
  by : (us : List Tree) → us ≢ [] → ¬ IsAtom (node f.now (trees us))
  by [] m k = m refl
  by (u ∷ us) m k = k
no_atom _ a n k = k

-- a structure is a list cell by its name and two arguments
pub list_by_count : (t : Tree) (f : List ℕ) (ts : List Tree) → node f (trees ts) ≡ t → ts ≢ [] → f ≡ codes "." → IsTrue (nat_eq (length ts) 2) ↔ IsList t
list_by_count t f ts p n e = subst (λ z. IsTrue (nat_eq (length ts) 2) ↔ IsList z) p (by ts n) where
  by : (ts : List Tree) → ts ≢ [] → IsTrue (nat_eq (length ts) 2) ↔ IsList (node f (trees ts))
  by [] n = absurd (n refl)
  by (a ∷ []) n = (λ h. let clash : 1 ≡ 2 = eqb-true 1 2 h in omega (arith, clash), λ k. absurd k)
  by (a ∷ b ∷ []) n = (λ h. e, λ k. refl)
  by (a ∷ b ∷ c ∷ us) n = (λ h. let clash = eqb-true (length (a ∷ b ∷ c ∷ us)) 2 h in omega (arith, clash), λ k. absurd k)

pub list_name : (t : Tree) (f : List ℕ) (ts : List Tree) → node f (trees ts) ≡ t → ts ≢ [] → IsList t → f ≡ codes "."
list_name t f ts p n k = by ts n (subst IsList (sym p) k) where
  by : (ts : List Tree) → ts ≢ [] → IsList (node f (trees ts)) → f ≡ codes "."
  by [] n k = absurd (n refl)
  by (a ∷ b ∷ []) n k = k
  by _ n k = absurd k

-- a test of names
pub named : (f g : List ℕ) (b : Bool) → b ≡ bytes_eq f g → b ≡ true → f ≡ g
named f g b e t = (bytes_eq-Decides f g).0 (sym e ∙ t)

pub not_named : (f g : List ℕ) (b : Bool) → b ≡ bytes_eq f g → b ≡ false → ¬ (f ≡ g)
not_named f g b e t same = let clash : true ≡ false = sym ((bytes_eq-Decides f g).1 same) ∙ sym e ∙ t in cc

-- what is lent as no variable is a value
pub shown_value : (v : TermView) → ((x : VarName) → v ≢ Var x) → IsValue (shown v)
shown_value (Var x) n = absurd (n x refl)
shown_value _ n = tt

pub value_seen : (v : TermView) (t : Tree) → shown v ≡ t → ((x : VarName) → v ≢ Var x) → IsValue t
value_seen v t e n = subst IsValue e (shown_value v n)
