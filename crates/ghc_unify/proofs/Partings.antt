-- Where two chains come together.
use Rattle.ghc_unify.proofs.Words.{◌≡◌, ◌≢◌, Bool, true, false, List, [], ◌∷◌, ◌++◌, refl, sym, ap, ◌∙◌, subst, inl, append_assoc, append_cancel_right, Option, Some, None, VarName, Tree, variable, In, Leads, at_free, along, Comes, now, on, Passes, leads_once, in_right, in_splits, Parts}

-- two lists, with an end of both taken off
pub record Split (xs ys a b : List VarName) (shared : Bool) : Type 0 where
  pub common : List VarName
  pub left : xs ≡ a ++ common
  pub right : ys ≡ b ++ common
  pub none : shared ≡ false → common ≡ []
  pub some : shared ≡ true → common ≢ []

-- a list that is not empty has a last element
last_of : (x : VarName) (xs : List VarName) → (w : List VarName) × (z : VarName) × (x ∷ xs ≡ w ++ z ∷ [])
last_of x [] = ([], x, refl)
last_of x (y ∷ ys) = let r = last_of y ys in (x ∷ r.0, r.1, ap (λ l. x ∷ l) r.2)

module _ {T : VarName → Option Tree} where
  -- a chain is cut at a variable
  first_cut : {t e : Tree} {m : VarName} {c : List VarName} → Leads T t (m ∷ c) e → Comes T t [] m × Leads T (variable m) (m ∷ c) e
  first_cut (at_free p) = (now, at_free p)
  first_cut (along p l) = (now, along p l)

  pub cut : {t e : Tree} {xs : List VarName} (a : List VarName) (m : VarName) (c : List VarName) → Leads T t xs e → xs ≡ a ++ m ∷ c → Comes T t a m × Leads T (variable m) (m ∷ c) e
  cut {t = t} {e = e} [] m c l q = first_cut (subst (λ k. Leads T t k e) q l)
  cut (z ∷ a) m c (along {x = x} {xs = xs} p l) q =
      let same : x ≡ z = cc in
      let inner = cut a m c l (cc) in
      (subst (λ y. Comes T (variable x) (y ∷ a) m) same (on p inner.0), inner.1)
  cut (z ∷ []) m c l q = cc
  cut (z ∷ w ∷ a) m c l q = cc

  leads_first : {x : VarName} {e : Tree} {xs : List VarName} → Leads T (variable x) xs e → In x xs
  leads_first (at_free p) = inl refl
  leads_first (along p l) = inl refl

  -- what comes after a variable that a chain passes
  after : {t f : Tree} {ys b : List VarName} {x : VarName} → Comes T t b x → Leads T t ys f → (zs : List VarName) × (ys ≡ b ++ zs) × Leads T (variable x) zs f
  after now l = (_, refl, l)
  after (on e c) (at_free p) = let no : None ≡ Some _ = sym p ∙ e in cc
  after (on {x = z} {y = y} {t = u} {xs = b} e c) (along {t = v} {e = f} {xs = ys} p l) =
      let same : v ≡ u = let s : Some v ≡ Some u = sym p ∙ e in cc in
      let r = after c (subst (λ w. Leads T w ys f) same l) in
      (r.0, ap (λ k. z ∷ k) r.1, r.2)

  -- a chain passes just its variables
  pub on_chain : {t e : Tree} {xs ys : List VarName} {x : VarName} → Leads T t xs e → Comes T t ys x → In x xs
  on_chain {ys = ys} {x = x} l c =
      let r = after c l in
      subst (In x) (sym r.1) (in_right ys r.0 x (leads_first r.2))

  -- what a chain passes before the common end of both, the other does not pass
  pub parted : {l r e f : Tree} {xs ys a b : List VarName} (shared : Bool) → Leads T l xs e → Leads T r ys f → Parts xs ys a b shared → (x : VarName) → In x a → ¬ Passes T r x
  parted {xs = xs} {ys = ys} {a = a} {b = b} shared k h p x i c =
      let p1 = in_splits a x i in
      let here : xs ≡ p1.0 ++ x ∷ (p1.1 ++ p.common) = p.left ∙ ap (λ w. w ++ p.common) p1.2 ∙ append_assoc p1.0 (x ∷ p1.1) p.common in
      let rest = (cut p1.0 x (p1.1 ++ p.common) k here).1 in
      let other = after c.1 h in
      let same : other.0 ≡ x ∷ (p1.1 ++ p.common) = (leads_once other.2 rest).0 in
      let there : b ++ p.common ≡ (c.0 ++ x ∷ p1.1) ++ p.common = sym p.right ∙ other.1 ∙ ap (λ w. c.0 ++ w) same ∙ sym (append_assoc c.0 (x ∷ p1.1) p.common) in
      let back : b ≡ c.0 ++ x ∷ p1.1 = append_cancel_right b (c.0 ++ x ∷ p1.1) p.common there in
      let z = last_of x p1.1 in
      p.longest (z.1, p1.0 ++ z.0, c.0 ++ z.0, p1.2 ∙ rw (z.2, append_assoc), back ∙ rw (z.2, append_assoc))

  -- a chain passes what is on it
  pub passes_in : {t e : Tree} {xs : List VarName} {x : VarName} → Leads T t xs e → In x xs → Passes T t x
  passes_in {x = x} l i = let q = in_splits _ x i in (q.0, (cut q.0 x q.1 l q.2).0)
