-- Where variables end.
use Rattle.ghc_match.proofs.Words.{◌≡◌, ◌≢◌, ℤ, List, ◌∷◌, refl, sym, ap, ◌∙◌, subst, inl, inr, ◌⊎◌, Option, Some, None, IsTrue, ◌↔◌, VarName, TermView, Int, Tree, variable, integer, IsValue, shown, Variables, leaf, StoreValue, value_at, Leads, at_free, along, leads_once, one_inserted, EndsIn, Number, ChainEnds, StandsAndEnds, EndsAt, TellsEnd, Scope, Goal, Head, End, Nowhere, Unbound, Value, Gains}
use Rattle.std.specs.FinSet as set
use Rattle.ghc_match.proofs.Values.{ends_once, variable_is}
use Rattle.ghc_match.proofs.Positions.{value_not}

-- an answer about one tree holds of another that ends as it does
told_as : (P Q : Tree → Type 0) (end : End) → ((e : Tree) → P e → Q e) → ((e : Tree) → Q e → P e) → TellsEnd P end → TellsEnd Q end
told_as P Q Nowhere f g h = λ e q. h e (g e q)
told_as P Q (Unbound x) f g h = f (variable x) h
told_as P Q (Value t) f g h = (f t.now h.0, h.1)

-- a bound variable ends where its value does
pub bound_ends : (S : VarName → Option Tree) (x : VarName) (t e : Tree) → S x ≡ Some t → EndsIn S x e → ChainEnds S t e
bound_ends S x t e b l = by l.1 refl where
  by : {u e : Tree} {xs : List VarName} → Leads S u xs e → u ≡ variable x → ChainEnds S t e
  by (at_free {x = y} p) q =
      let same : y ≡ x = cc in
      let clash : None ≡ Some t = sym p ∙ ap S same ∙ b in
      cc
  by (along {x = y} {t = u} {e = e} {xs = xs} p a) q =
      let same : y ≡ x = cc in
      let value : Some u ≡ Some t = sym p ∙ ap S same ∙ b in
      let is : u ≡ t = cc in
      (xs, subst (λ z. Leads S z xs e) is a)
  by _ q = cc

pub through : (S : VarName → Option Tree) (x : VarName) (t : Tree) (end : End) → S x ≡ Some t → TellsEnd (ChainEnds S t) end → TellsEnd (EndsIn S x) end
through S x t end b h = told_as (ChainEnds S t) (EndsIn S x) end (λ e l. (x ∷ l.0, along b l.1)) (λ e l. bound_ends S x t e b l) h

pub stood : (stands : StoreValue) (S : VarName → Option Tree) (x : VarName) (t : Tree) (end : End) → value_at stands x ≡ Some t → TellsEnd (ChainEnds S t) end → TellsEnd (StandsAndEnds stands S x) end
stood stands S x t end b h = told_as (ChainEnds S t) (StandsAndEnds stands S x) end (λ e l. (t, b, l)) (λ e l.
    let both : Some l.0 ≡ Some t = sym l.1 ∙ b in
    let same : l.0 ≡ t = cc in
    (l.2.0, subst (λ z. Leads S z l.2.0 e) same l.2.1)) h

-- a variable has one end
pub stands_ends_once : (stands : StoreValue) (S : VarName → Option Tree) (x : VarName) (e f : Tree) → StandsAndEnds stands S x e → StandsAndEnds stands S x f → e ≡ f
stands_ends_once stands S x e f p q =
    let both : Some p.0 ≡ Some q.0 = sym p.1 ∙ q.1 in
    let same : p.0 ≡ q.0 = cc in
    (leads_once (subst (λ z. Leads S z p.2.0 e) same p.2.1) q.2.1).1

pub once_at : (scope : Scope) (s : StoreValue) (x : VarName) (e f : Tree) → EndsAt scope s x e → EndsAt scope s x f → e ≡ f
once_at Goal s x e f p q = ends_once x e f p q
once_at (Head stands) s x e f p q = stands_ends_once stands.now (value_at s) x e f p q

-- an end that is no value is no integer
pub no_value : (P : Tree → Type 0) (end : End) → ((e f : Tree) → P e → P f → e ≡ f) → ((t : _) → end ≢ Value t) → TellsEnd P end → (k : ℤ) → ¬ P (integer k)
no_value P Nowhere once n h k p = h (integer k) p
no_value P (Unbound x) once n h k p = let clash : variable x ≡ integer k = once (variable x) (integer k) h p in cc
no_value P (Value t) once n h k p = absurd (n t refl)

-- what is lent as no integer is none
pub shown_no_integer : (v : TermView) → ((k : ℤ) → v ≢ Int k) → (k : ℤ) → ¬ (shown v ≡ integer k)
shown_no_integer (Int j) n k e = n j refl
shown_no_integer _ n k e = cc

-- a leaf that is a variable has the value of its end
pub leaf_number : (E : VarName → Tree → Type 0) (x : VarName) (t : Tree) (k : ℤ) → variable x ≡ t → Number E (leaf t) k → E x (integer k)
leaf_number E x t k e n = variable_is (subst (λ z. Number E (leaf z) k) (sym e) n)

-- where the answer is no unbound variable, it ends at no variable
pub not_unbound : (P : Tree → Type 0) (end : End) → ((e f : Tree) → P e → P f → e ≡ f) → ((x : VarName) → end ≢ Unbound x) → TellsEnd P end → (x : VarName) → ¬ P (variable x)
not_unbound P Nowhere once n h x p = h (variable x) p
not_unbound P (Unbound y) once n h x p = n y refl
not_unbound P (Value t) once n h x p = value_not (once t.now (variable x) h.0 p) h.1

-- the set after an end that is unbound
pub after_unbound : (P : Tree → Type 0) (s new : Variables) (y : VarName) → ((e f : Tree) → P e → P f → e ≡ f) → P (variable y) → new ≡ set.insert s y
    → (x : VarName) → IsTrue (set.contains new x) ↔ (IsTrue (set.contains s x) ⊎ P (variable x))
after_unbound P s new y once h e x = (
  λ c. elim ((one_inserted s y x).0 (subst (λ z. IsTrue (set.contains z x)) e c)) [ inl a ↦ inl a | inr b ↦ inr (subst (λ z. P (variable z)) (sym b) h) ],
  λ c. subst (λ z. IsTrue (set.contains z x)) (sym e) ((one_inserted s y x).1 (elim c [ inl a ↦ inl a | inr p ↦ inr (let same : variable x ≡ variable y = once (variable x) (variable y) p h in cc) ])),
)

-- and after another
pub after_other : (P : Tree → Type 0) (s new : Variables) → ((x : VarName) → ¬ P (variable x)) → new ≡ s
    → (x : VarName) → IsTrue (set.contains new x) ↔ (IsTrue (set.contains s x) ⊎ P (variable x))
after_other P s new n e x = (
  λ c. inl (subst (λ z. IsTrue (set.contains z x)) e c),
  λ c. elim c [ inl a ↦ subst (λ z. IsTrue (set.contains z x)) (sym e) a | inr p ↦ absurd (n x p) ],
)

-- what is added for a variable of the head, which stands for a term: the end of its chain where that is unbound, and nothing where it is a value
module _ (stands : StoreValue) (S : VarName → Option Tree) (x : VarName) (t e : Tree) (there : Some t ≡ value_at stands x) (l : ChainEnds S t e) where
  pub unbound_added : (y : VarName) (s new : Variables) → variable y ≡ e → new ≡ set.insert s y → Gains s new (λ z. StandsAndEnds stands S x (variable z))
  unbound_added y s new is g = after_unbound (StandsAndEnds stands S x) s new y (stands_ends_once stands S x) (t, sym there, rw is l) g

  pub not_ended : IsValue e → (z : VarName) → ¬ StandsAndEnds stands S x (variable z)
  not_ended v z p = value_not (stands_ends_once stands S x e (variable z) (t, sym there, l) p) v

  pub none_added : (s : Variables) → IsValue e → Gains s s (λ z. StandsAndEnds stands S x (variable z))
  none_added s v = after_other (StandsAndEnds stands S x) s s (not_ended v) refl

-- where the answer is no value, it ends in no value
pub no_value_told : (P : Tree → Type 0) (end : End) → ((e f : Tree) → P e → P f → e ≡ f) → ((t : _) → end ≢ Value t) → TellsEnd P end → (e : Tree) → P e → ¬ IsValue e
no_value_told P Nowhere once n h e p = absurd (h e p)
no_value_told P (Unbound x) once n h e p = value_not (once e (variable x) p h)
no_value_told P (Value t) once n h e p = absurd (n t refl)
