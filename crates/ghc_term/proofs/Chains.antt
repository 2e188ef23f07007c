-- Laws of chains.
use Rattle.ghc_term.proofs.Words.{◌≡◌, List, ◌∷◌, refl, ap, ◌∙◌, subst, inl, inr, Option, Some, VarName, Tree, In, Leads, at_integer, at_node, at_free, along, Reaches, here, through}

module _ {S : VarName → Option Tree} where
  -- a term has one chain and one end
  pub leads_once : {t e f : Tree} {xs ys : List VarName} → Leads S t xs e → Leads S t ys f → (xs ≡ ys) × (e ≡ f)
  leads_once at_integer at_integer = (refl, refl)
  leads_once at_node at_node = (refl, refl)
  leads_once (at_free p) (at_free q) = (refl, refl)
  leads_once (at_free p) (along q b) = cc
  leads_once (along p a) (at_free q) = cc
  leads_once (along {x = x} {t = t} p a) (along {t = u} {e = f} {xs = ys} q b) =
      let e : u ≡ t = cc in
      let both = leads_once a (subst (λ v. Leads S v ys f) e b) in
      (ap (λ zs. x ∷ zs) both.0, both.1)

  -- a term reaches the variables of its chain
  pub leads_reaches : {t e : Tree} {xs : List VarName} {y : VarName} → Leads S t xs e → In y xs → Reaches S t y
  leads_reaches (at_free p) (inl e) = here e
  leads_reaches (at_free p) (inr h) = absurd h
  leads_reaches (along p a) (inl e) = here e
  leads_reaches (along p a) (inr h) = through refl p (leads_reaches a h)
  leads_reaches l h = absurd h

  -- the chain is the same in another store that agrees on it
  pub leads_agree : {S' : VarName → Option Tree} {t e : Tree} {xs : List VarName} → Leads S t xs e → ((x : VarName) → In x xs → S' x ≡ S x) → Leads S' t xs e
  leads_agree at_integer h = at_integer
  leads_agree at_node h = at_node
  leads_agree (at_free {x = x} p) h = at_free (h x (inl refl) ∙ p)
  leads_agree (along {x = x} p a) h = along (h x (inl refl) ∙ p) (leads_agree a (λ y i. h y (inr i)))

  -- a store with fewer bindings reaches less
  pub reaches_more : {S' : VarName → Option Tree} {t : Tree} {y : VarName} → Reaches S t y → ((x : VarName) (u : Tree) → S x ≡ Some u → S' x ≡ Some u) → Reaches S' t y
  reaches_more (here o) h = here o
  reaches_more (through {u = u} {y = y} o p r) h = through o (h y u p) (reaches_more r h)

  -- what the value of a reached variable reaches is reached
  pub reaches_on : {t u : Tree} {x y : VarName} → Reaches S t x → S x ≡ Some u → Reaches S u y → Reaches S t y
  reaches_on (here o) e r = through o e r
  reaches_on (through o p s) e r = through o p (reaches_on s e r)
