-- Where the store is acyclic each term has a chain, which is no longer than the store allows.
use Rattle.ghc_term.proofs.Words.{◌≡◌, ◌≢◌, ℕ, zero, suc, ◌+◌, ◌-◌, ◌<◌, ◌≤◌, true, false, cond, List, [], ◌∷◌, length, refl, sym, ap, ◌∙◌, subst, arith, Option, Some, None, is_some, eq_by_cmp, VarName, Tree, variable, integer, node, StoreValue, value_at, name_cmp, In, Leads, at_integer, at_node, at_free, along, IsAcyclic}
use Rattle.std.specs.FinMap as finite
use Rattle.ghc_term.proofs.Names.{name_total}
use Rattle.ghc_term.proofs.Chains.{leads_once, leads_reaches, leads_agree, reaches_more}
pub use Rattle.ghc_term.proofs.Names.{same_name, apart}

pub removed_apart : (S : StoreValue) (x q : VarName) → q ≢ x → value_at (finite.remove S x) q ≡ value_at S q
removed_apart S x q n = finite.get-remove name_total S x q ∙ ap (λ b. cond b None (value_at S q)) (apart q x n)

pub removed_less : (S : StoreValue) (x q : VarName) (t : Tree) → value_at (finite.remove S x) q ≡ Some t → value_at S q ≡ Some t
removed_less S x q t e =
    elim (eq_by_cmp name_cmp q x) as (λ b. cond b None (value_at S q) ≡ Some t → value_at S q ≡ Some t) [
      | true ↦ λ p. cc
      | false ↦ λ p. p
    ] (sym (finite.get-remove name_total S x q) ∙ e)

pub removed_acyclic : (S : StoreValue) (x : VarName) → IsAcyclic (value_at S) → IsAcyclic (value_at (finite.remove S x))
removed_acyclic S x h y t e r = h y t (removed_less S x y t e) (reaches_more r (λ q u p. removed_less S x q u p))

pub record Chain (S : VarName → Option Tree) (t : Tree) (n : ℕ) : Type 0 where
  pub passed : List VarName
  pub «end» : Tree
  pub leads : Leads S t passed «end»
  pub short : length passed ≤ n

pub fewer : (S : StoreValue) (x : VarName) (t : Tree) (n : ℕ) → value_at S x ≡ Some t → finite.len S ≤ suc n → finite.len (finite.remove S x) ≤ n
fewer S x t n e h = omega (arith, finite.len-remove name_total S x ∙ ap (λ o. cond (is_some o) (finite.len S - 1) (finite.len S)) e)

pub none_bound : (S : StoreValue) (x : VarName) (t : Tree) → finite.len S ≤ 0 → value_at S x ≡ Some t → ⊥
none_bound S x t h e =
    let none : value_at S x ≡ None = ap (λ s. value_at s x) (finite.empty_of_len S (omega arith)) ∙ finite.get-empty name_cmp x in
    cc

pub chain : (n : ℕ) (S : StoreValue) → finite.len S ≤ n → IsAcyclic (value_at S) → (t : Tree) → Chain (value_at S) t (n + 1)
chain n S le h (integer k) = record { passed = []; «end» = integer k; leads = at_integer; short = omega arith }
chain n S le h (node f ts) = record { passed = []; «end» = node f ts; leads = at_node; short = omega arith }
chain zero S le h (variable x) =
    elim (value_at S x) as (λ o. value_at S x ≡ o → Chain (value_at S) (variable x) 1) [
      | None ↦ λ e. record { passed = x ∷ []; «end» = variable x; leads = at_free e; short = omega arith }
      | Some t ↦ λ e. absurd (none_bound S x t le e)
    ] refl
chain (suc n) S le h (variable x) =
    elim (value_at S x) as (λ o. value_at S x ≡ o → Chain (value_at S) (variable x) (suc n + 1)) [
      | None ↦ λ e. record { passed = x ∷ []; «end» = variable x; leads = at_free e; short = omega arith }
      | Some t ↦ λ e.
          let rest = chain n (finite.remove S x) (fewer S x t n e le) (removed_acyclic S x h) t in
          let new : ¬ In x rest.passed = λ i. h x t e (reaches_more (leads_reaches rest.leads i) (λ q u p. removed_less S x q u p)) in
          record {
            passed = x ∷ rest.passed;
            «end» = rest.«end»;
            leads = along e (leads_agree rest.leads (λ y i. sym (removed_apart S x y (λ same. new (subst (λ z. In z rest.passed) same i)))));
            short = omega (arith, rest.short);
          }
    ] refl

-- how many variables a walk from t passes, of at most n
abbrev pub walk : ℕ → StoreValue → Tree → ℕ
walk (suc n) S (variable x) = elim (value_at S x) [ Some t ↦ suc (walk n S t) | None ↦ 1 ]
walk n S t = 0

pub walk_is : (n : ℕ) (S : StoreValue) {t e : Tree} {xs : List VarName} → Leads (value_at S) t xs e → length xs ≤ n → walk n S t ≡ length xs
walk_is zero S (at_free p) h = absurd (omega arith)
walk_is zero S (along p a) h = absurd (omega arith)
walk_is (suc n) S (at_free p) h = rw (p, walk)
walk_is (suc n) S (along p a) h = rw (p, walk) (ap suc (walk_is n S a (omega arith)))
walk_is n S l h = refl

-- a walk is shorter after one step
pub walk_step : (S : StoreValue) → IsAcyclic (value_at S) → (x : VarName) (t : Tree) → value_at S x ≡ Some t → walk (finite.len S + 1) S t < walk (finite.len S + 1) S (variable x)
walk_step S h x t e =
    let n = finite.len S in
    let rest = chain n S (omega arith) h t in
    let all = chain n S (omega arith) h (variable x) in
    let same : x ∷ rest.passed ≡ all.passed = (leads_once (along e rest.leads) all.leads).0 in
    let short : length (x ∷ rest.passed) ≤ n + 1 = subst (λ l. length l ≤ n + 1) (sym same) all.short in
    omega (arith, walk_is (n + 1) S rest.leads rest.short, walk_is (n + 1) S (along e rest.leads) short)

pub empty_acyclic : (s : StoreValue) → s ≡ finite.empty → IsAcyclic (value_at s)
empty_acyclic s same x t e r =
    let none : value_at s x ≡ None = ap (λ s. value_at s x) same ∙ finite.get-empty name_cmp x in
    cc
