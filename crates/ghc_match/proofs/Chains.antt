-- Chains: what they pass, and the same ones in stores that agree on them.
use Rattle.ghc_match.proofs.Words.{◌≡◌, List, [], ◌∷◌, sym, ◌∙◌, subst, inl, inr, refl, arith, ℕ, Option, Some, None, VarName, Tree, variable, node, Trees, In, Leads, at_integer, at_node, at_free, along, Comes, now, on, Passes, IsAcyclic, leads_agree, StoreValue, value_at, chain, unbound}
use Rattle.std.specs.FinMap as finite

-- what is on a chain is passed
pub leads_passes : {S : VarName → Option Tree} {t e : Tree} {xs : List VarName} {x : VarName} → Leads S t xs e → In x xs → Passes S t x
leads_passes {S = S} {x = x} (at_free {x = z} p) (inl e) = ([], subst (λ z. Comes S (variable z) [] x) e now)
leads_passes (at_free p) (inr i) = absurd i
leads_passes {S = S} {x = x} (along {x = z} p a) (inl e) = ([], subst (λ z. Comes S (variable z) [] x) e now)
leads_passes (along {x = z} p a) (inr i) = let r = leads_passes a i in (z ∷ r.0, on p r.1)
leads_passes _ i = absurd i

-- S' agrees with S on the chain of t
abbrev pub AgreesFrom : (VarName → Option Tree) → (VarName → Option Tree) → Tree → Type 0
AgreesFrom S S' t = (x : VarName) → Passes S t x → S' x ≡ S x

pub leads_there : {S S' : VarName → Option Tree} {t e : Tree} {xs : List VarName} → Leads S t xs e → AgreesFrom S S' t → Leads S' t xs e
leads_there l h = leads_agree l (λ x i. h x (leads_passes l i))

pub leads_back : {S S' : VarName → Option Tree} {t e : Tree} {xs : List VarName} → Leads S' t xs e → AgreesFrom S S' t → Leads S t xs e
leads_back at_integer h = at_integer
leads_back at_node h = at_node
leads_back (at_free {x = x} p) h = at_free (sym (h x ([], now)) ∙ p)
leads_back (along {x = x} {t = u} p a) h =
    let was = sym (h x ([], now)) ∙ p in
    along was (leads_back a (λ y q. h y (x ∷ q.0, on was q.1)))

pub passes_there : {S S' : VarName → Option Tree} {t : Tree} {xs : List VarName} {y : VarName} → Comes S t xs y → AgreesFrom S S' t → Comes S' t xs y
passes_there now h = now
passes_there (on {x = x} e c) h = on (h x ([], now) ∙ e) (passes_there c (λ y q. h y (x ∷ q.0, on e q.1)))

pub passes_back : {S S' : VarName → Option Tree} {t : Tree} {xs : List VarName} {y : VarName} → Comes S' t xs y → AgreesFrom S S' t → Comes S t xs y
passes_back now h = now
passes_back (on {x = x} e c) h =
    let was = sym (h x ([], now)) ∙ e in
    on was (passes_back c (λ y q. h y (x ∷ q.0, on was q.1)))

-- where a store has no cycle each tree has a chain
pub chains : (s : StoreValue) → IsAcyclic (value_at s) → (t : Tree) → (xs : List VarName) × (e : Tree) × Leads (value_at s) t xs e
chains s acyclic t = let k = chain (finite.len s) s (omega arith) acyclic t in (k.passed, k.«end», k.leads)

-- a chain that ends passes just its variables
pub passes_in : {S : VarName → Option Tree} {t e : Tree} {xs ys : List VarName} {x : VarName} → Leads S t xs e → Comes S t ys x → In x xs
passes_in (at_free p) now = inl refl
passes_in (at_free p) (on {t = u} e c) = let clash : None ≡ Some u = sym p ∙ e in cc
passes_in (along p a) now = inl refl
passes_in {S = S} (along {x = z} {t = u} p a) (on {y = y} {t = w} {xs = b} g d) =
    let same : w ≡ u = let s : Some w ≡ Some u = sym g ∙ p in cc in
    inr (passes_in a (subst (λ k. Comes S k b y) same d))
passes_in _ c = elim c [ ]

-- in a head a node is reached as written
pub written : {t : Tree} {xs : List VarName} {f : List ℕ} {us : Trees} → Leads unbound t xs (node f us) → t ≡ node f us
written at_node = refl
written (along {t = u} p a) = let clash : None ≡ Some u = p in cc
