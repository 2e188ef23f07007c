-- Chains that end unbound.
use Rattle.ghc_unify.proofs.Words.{◌≡◌, List, [], ◌∷◌, ◌++◌, refl, ap, Option, None, VarName, Tree, variable, Leads, at_free, along, Comes, now, on, Passes, leads_once}

-- a chain that ends unbound comes to its end
pub left_end : {T : VarName → Option Tree} {t : Tree} {xs : List VarName} {x : VarName} → Leads T t xs (variable x) → (a : List VarName) × (xs ≡ a ++ x ∷ []) × Comes T t a x × (T x ≡ None)
left_end (at_free p) = ([], refl, now, p)
left_end (along {x = z} p l) = let r = left_end l in (z ∷ r.0, ap (λ l. z ∷ l) r.1, on p r.2, r.3)

-- a chain that comes to an unbound variable ends there
pub comes_leads : {S : VarName → Option Tree} {t : Tree} {a : List VarName} {x : VarName} → Comes S t a x → S x ≡ None → Leads S t (a ++ x ∷ []) (variable x)
comes_leads now n = at_free n
comes_leads (on p c) n = along p (comes_leads c n)

pub ends : {S : VarName → Option Tree} {t e : Tree} {xs : List VarName} {x : VarName} → S x ≡ None → Leads S t xs e → Passes S t x → e ≡ variable x
ends n l p = (leads_once l (comes_leads p.1 n)).1
