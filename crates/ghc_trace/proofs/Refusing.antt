-- A clause that refuses a call, or waits for what stays unbound, does not accept it in a store with more bindings, and an expression without a value has none there.
use Rattle.std.proofs.Common.{◌≡◌, ℕ, ℤ, List, [], ◌∷◌, refl, sym, ◌∙◌, subst, inl, inr, Option, None}
use Rattle.ghc_term.specs.declared.var_name.VarName.{VarName}
use Rattle.ghc_term.specs.Bindings.{Leads, at_integer, at_node, at_free, along, Passes}
use Rattle.ghc_term.specs.Expression.{Expression}
use Rattle.ghc_term.specs.Lists.{In}
use Rattle.ghc_term.specs.Tree.{Tree, variable, IsValue}
use Rattle.ghc_flat.specs.Clause.{Clause}
use Rattle.ghc_flat.specs.Variables.{leaf_variables, variables_of_test}
use Rattle.ghc_match.specs.Match.{Accepts, LooksAt, Refuses, SaysYes, StandsFor, WaitsFor}
use Rattle.ghc_match.specs.Position.{At, here, down, EndsIn}
use Rattle.ghc_match.specs.Value.{Number, of_integer, of_variable, computed, Wants}
use Rattle.ghc_match.proofs.Chains.{passes_in}
use Rattle.ghc_match.proofs.Outcomes.{accepts_refuses, refuses_there}
use Rattle.ghc_match.proofs.Values.{ends_once, number_there, number_waits_not}
use Rattle.ghc_unify.proofs.Extension.{leads_bound, leads_more}
use Rattle.ghc_trace.proofs.Solving.{Has}

-- what is no variable is a value
value_or : (e : Tree) → ((x : VarName) → ¬ (e ≡ variable x)) → IsValue e
value_or (variable x) n = n x refl
value_or e n = tt

module _ (S S' : VarName → Option Tree) (has : Has S' S) where
  at_more : {ts : List Tree} {p : List ℕ} {t : Tree} → At S ts p t → At S' ts p t
  at_more (here e) = here e
  at_more (down e l a) = down e (leads_more l tt has) (at_more a)

  -- a chain that ends in a variable ends there still, where that is unbound
  free_on : {t e : Tree} {xs : List VarName} → Leads S t xs e → (x : VarName) → e ≡ variable x → S' x ≡ None → Leads S' t xs e
  free_on at_integer x e n = at_integer
  free_on at_node x e n = at_node
  free_on (at_free {x = y} p) x e n = let same : x ≡ y = cc in at_free (subst (λ z. S' z ≡ None) same n)
  free_on (along {x = y} {t = u} p l) x e n = along (has y u p) (free_on l x e n)

  -- the stores agree on a chain that ends in a value
  agrees : {t e : Tree} {xs : List VarName} {x : VarName} → Leads S t xs e → ((y : VarName) → ¬ (e ≡ variable y)) → Passes S t x → S' x ≡ S x
  agrees {e = e} {x = x} l n p = let b = leads_bound l (value_or e n) (passes_in l p.1) in has x b.0 b.1 ∙ sym b.1

  module _ (c : Clause) (ts : List Tree) where
    stands_on : (y : VarName) (t : Tree) → StandsFor c ts S y t → StandsFor c ts S' y t
    stands_on y t s = (s.0, s.1, at_more s.2)

    -- what waits for a variable that stays unbound does not accept
    pub still_waits : (x : VarName) → WaitsFor c ts S x → S' x ≡ None → ¬ Accepts c ts S'
    still_waits x (inl w) n a = let h = w.1 in a.0.1 x (h.0, h.1, h.2, h.3, h.4, at_more h.5, free_on h.6 x refl n)
    still_waits x (inr w) n a =
        let g = w.2 in
        let k = g.2 in
        let s = k.2 in
        (a.1 g.0 g.1).0 x (k.0, k.1, (s.0, s.1, stands_on k.0 s.0 s.2, free_on s.3 x refl n))

    -- what refuses does not accept
    module _ (chains : (t : Tree) → (xs : List VarName) × (e : Tree) × Leads S t xs e) where
      pub still_refuses : Refuses c ts S → ¬ Accepts c ts S'
      still_refuses (inl m) a = a.0.0 (m.0, m.1, m.2, m.3, m.4, m.5, at_more m.6, leads_more m.7 m.8 has, m.8, m.9)
      still_refuses (inr r) a =
          let fits = r.0 in
          let g = r.1 in
          let only : Clause = record c { tests = g.0 ∷ [] } in
          let agree : (x : VarName) → LooksAt only ts S x → S' x ≡ S x = λ x l. elim l [
            | inl h ↦
                let k = chains h.2 in
                agrees k.2 (λ y e. fits.1 y (h.0, h.1, h.2, k.0, h.3, h.4, subst (Leads S h.2 k.0) e k.2)) h.5
            | inr h ↦
                let k = chains h.2 in
                elim h.3 [
                  | inl same ↦ agrees k.2 (λ y e. g.2.0 y (h.1, subst (λ f. In h.1 (variables_of_test f)) same h.4, (h.2, k.0, h.5, subst (Leads S h.2 k.0) e k.2))) h.6
                  | inr none ↦ absurd none
                ]
          ] in
          accepts_refuses only ts S' (
            a.0,
            λ f i. elim i [
              | inl same ↦ subst (SaysYes c ts S') (sym same) (a.1 g.0 g.1)
              | inr none ↦ absurd none
            ],
          ) (refuses_there only ts S S' agree (inr (fits, (g.0, inl refl, g.2))))

  -- an expression has its number still
  pub number_on : {a : Expression} {k : ℤ} → Number (EndsIn S) a k → Number (EndsIn S') a k
  number_on of_integer = of_integer
  number_on (of_variable p) = of_variable (p.0, leads_more p.1 tt has)
  number_on (computed m n w) = computed (number_on m) (number_on n) w

  -- one that waits for a variable that stays unbound has none
  pub waits_on : (a : Expression) (x : VarName) → Wants (EndsIn S) (leaf_variables a) x → S' x ≡ None → (k : ℤ) → ¬ Number (EndsIn S') a k
  waits_on a x w n k m = number_waits_not ends_once m (w.0, w.1, (w.2.0, free_on w.2.1 x refl n))

  -- one that waits for nothing had it before
  pub number_back : (chains : (t : Tree) → (xs : List VarName) × (e : Tree) × Leads S t xs e) (a : Expression) (k : ℤ)
      → ((x : VarName) → ¬ Wants (EndsIn S) (leaf_variables a) x) → Number (EndsIn S') a k → Number (EndsIn S) a k
  number_back chains a k none m = number_there m (λ y e i l.
      let c = chains (variable y) in
      let ends : EndsIn S y c.1 = (c.0, c.2) in
      let there : EndsIn S' y c.1 = (c.0, leads_more c.2 (value_or c.1 (λ x q. none x (y, i, (c.0, subst (Leads S (variable y) c.0) q c.2)))) has) in
      subst (EndsIn S y) (ends_once y c.1 e there l) ends)
