-- How an outcome is shown, place by place of the head.
use Rattle.ghc_match.proofs.Words.{◌≡◌, ℕ, List, [], ◌∷◌, refl, sym, ap, ◌∙◌, subst, inl, inr, ◌⊎◌, Option, Some, VarName, Tree, variable, IsValue, In, Leads, Passes, name_cmp, name_total, leads_once, Test, Clause, variables_of_test, Each, each_in, each_as, set_by, At, AreAlike, HeadHas, StandsFor, Mismatch, HeadWants, StandsAt, Holds, TestWants, WaitsFor, LooksAt, waits, accepts, HasOutcome}
use Rattle.std.specs.FinMap as finite
use Rattle.std.specs.FinSet as set
use Rattle.ghc_match.proofs.Positions.{places, all_places, at_once, same_variable, value_not, entry_in}
use Rattle.ghc_match.proofs.Chains.{passes_in}

-- each place of the list is one of which Q holds
abbrev pub EachPlace : List (List ℕ × Tree) → (List ℕ → Tree → Type 0) → Type 0
EachPlace es Q = Each es (λ e. Q e.0 e.1)

-- each entry is one of which Q holds
abbrev pub EachEntry : List (VarName × Tree) → (VarName → Tree → Type 0) → Type 0
EachEntry es Q = Each es (λ e. Q e.0 e.1)

-- at p, where the head has h, the goal ends in what the head wants or in a variable of ws, and passes variables of rs
abbrev pub Found : (VarName → Option Tree) → List Tree → List VarName → List VarName → List ℕ → Tree → Type 0
Found S ts rs ws p h =
    IsValue h → (t : Tree) × (xs : List VarName) × (e : Tree) × At S ts p t × Leads S t xs e × ((IsValue e × AreAlike h e) ⊎ ((x : VarName) × (e ≡ variable x) × In x ws)) × Each xs (λ x. In x rs)

-- at p, where the head has the variable y, the goal has its value
abbrev pub Stands : (VarName → Option Tree) → List Tree → List (VarName × Tree) → List ℕ → Tree → Type 0
Stands S ts es p h = (y : VarName) → h ≡ variable y → (t : Tree) × At S ts p t × (finite.find name_cmp y es ≡ Some t)

module _ (c : Clause) (ts : List Tree) (S : VarName → Option Tree) (rs ws : List VarName) (found : EachPlace (places c.head) (Found S ts rs ws)) where
  at_place : (p : List ℕ) (h : Tree) → HeadHas c ts S p h → (t : Tree) × (xs : List VarName) × (e : Tree) × At S ts p t × Leads S t xs e × ((IsValue e × AreAlike h e) ⊎ ((x : VarName) × (e ≡ variable x) × In x ws)) × Each xs (λ x. In x rs)
  at_place p h i = each_in (places c.head) (λ e. Found S ts rs ws e.0 e.1) (p, h) found (all_places c.head i.0) i.1

  pub no_mismatch : ¬ Mismatch c ts S
  no_mismatch m =
      let f = at_place m.0 m.1 m.5 in
      let t : f.0 ≡ m.2 = at_once f.3 m.6 in
      let e : f.2 ≡ m.3 = (leads_once (subst (λ w. Leads S w f.1 f.2) t f.4) m.7).1 in
      elim f.5 [ inl a ↦ m.9 (subst (AreAlike m.1) e a.1) | inr v ↦ value_not (sym e ∙ v.1) m.8 ]

  pub wants_in : (x : VarName) → HeadWants c ts S x → In x ws
  wants_in x m =
      let f = at_place m.0 m.1 m.4 in
      let t : f.0 ≡ m.2 = at_once f.3 m.5 in
      let e : f.2 ≡ variable x = (leads_once (subst (λ w. Leads S w f.1 f.2) t f.4) m.6).1 in
      elim f.5 [ inl a ↦ absurd (value_not e a.0) | inr v ↦ let same : v.0 ≡ x = let q : variable v.0 ≡ variable x = sym v.1 ∙ e in cc in subst (λ z. In z ws) same v.2 ]

  pub looks_in : (p : List ℕ) (h t : Tree) (x : VarName) → HeadHas c ts S p h → At S ts p t → Passes S t x → In x rs
  looks_in p h t x i a q =
      let f = at_place p h i in
      let same : f.0 ≡ t = at_once f.3 a in
      each_in f.1 (λ z. In z rs) x f.6 (passes_in (subst (λ w. Leads S w f.1 f.2) same f.4) q.1)

-- a variable of a test ends in a value, and passes variables of rs
abbrev pub Settled : (VarName → Option Tree) → List (VarName × Tree) → List VarName → VarName → Type 0
Settled S es rs y = (t : Tree) × (xs : List VarName) × (e : Tree) × (finite.find name_cmp y es ≡ Some t) × Leads S t xs e × IsValue e × Each xs (λ x. In x rs)

-- a clause waits, where its head fits but for these variables
pub waits_by : (c : Clause) (ts : List Tree) (S : VarName → Option Tree) (rs : List VarName) (w : VarName) (ws : List VarName)
    → EachPlace (places c.head) (Found S ts rs (w ∷ ws)) → Each (w ∷ ws) (HeadWants c ts S) → HasOutcome c ts S (waits (set.from_list (w ∷ ws)))
waits_by c ts S rs w ws found wanted =
    let ok = no_mismatch c ts S rs (w ∷ ws) found in (
      set_by (w ∷ ws) (WaitsFor c ts S) (each_as (w ∷ ws) (HeadWants c ts S) (WaitsFor c ts S) (λ x h. inl (ok, h)) wanted)
          (λ x p. elim p [ inl h ↦ wants_in c ts S rs (w ∷ ws) found x h.1 | inr g ↦ absurd (g.0.1 w wanted.0) ]),
      (w, inl (ok, wanted.0)),
    )

module _ (c : Clause) (ts : List Tree) (S : VarName → Option Tree) (es : List (VarName × Tree)) (stands : EachPlace (places c.head) (Stands S ts es)) where
  pub stands_found : (y : VarName) (t : Tree) → StandsFor c ts S y t → finite.find name_cmp y es ≡ Some t
  stands_found y t s =
      let f = each_in (places c.head) (λ e. Stands S ts es e.0 e.1) (s.0, variable y) stands (all_places c.head s.1) y refl in
      f.2 ∙ ap Some (at_once f.1 s.2)

  -- a variable that is settled does not end unbound
  pub settled_not : (rs : List VarName) (y x : VarName) → Settled S es rs y → ¬ StandsAt c ts S y (variable x)
  settled_not rs y x s d =
      let both : Some s.0 ≡ Some d.0 = sym s.3 ∙ stands_found y d.0 d.2 in
      let same : s.0 ≡ d.0 = cc in
      value_not (leads_once (subst (λ w. Leads S w s.1 s.2) same s.4) d.3).1 s.5

  -- a test whose variables are settled waits for nothing
  pub settled_wants : (rs : List VarName) (g : Test) → Each (variables_of_test g) (Settled S es rs) → (x : VarName) → ¬ TestWants c ts S g x
  settled_wants rs g t x w = settled_not rs w.0 x (each_in (variables_of_test g) (Settled S es rs) w.0 t w.1) w.2

  pub settled_in : (rs : List VarName) (y x : VarName) (t : Tree) → Settled S es rs y → StandsFor c ts S y t → Passes S t x → In x rs
  settled_in rs y x t s d q =
      let both : Some s.0 ≡ Some t = sym s.3 ∙ stands_found y t d in
      let same : s.0 ≡ t = cc in
      each_in s.1 (λ z. In z rs) x s.6 (passes_in (subst (λ w. Leads S w s.1 s.2) same s.4) q.1)

-- a clause accepts, where its head fits and its tests hold
pub accepts_by : (c : Clause) (ts : List Tree) (S : VarName → Option Tree) (es : List (VarName × Tree)) (rs : List VarName)
    → EachPlace (places c.head) (Found S ts rs []) → EachPlace (places c.head) (Stands S ts es) → EachEntry es (StandsFor c ts S)
    → Each c.tests (λ g. Holds c ts S g × Each (variables_of_test g) (Settled S es rs)) → Each rs (LooksAt c ts S)
    → HasOutcome c ts S (accepts (finite.from_entries es) (set.from_list rs))
accepts_by c ts S es rs found stands entries tests looked = (
  (
    (no_mismatch c ts S rs [] found, wants_in c ts S rs [] found),
    λ g ig.
        let t = each_in c.tests (λ g. Holds c ts S g × Each (variables_of_test g) (Settled S es rs)) g tests ig in
        (settled_wants c ts S es stands rs g t.1, t.0),
  ),
  λ y t. (
    λ e. each_in es (λ e. StandsFor c ts S e.0 e.1) (y, t) entries (entry_in es y t (sym (finite.get-from_entries name_total es y) ∙ e)),
    λ s. finite.get-from_entries name_total es y ∙ stands_found c ts S es stands y t s,
  ),
  set_by rs (LooksAt c ts S) looked (λ x l. elim l [
    | inl p ↦ looks_in c ts S rs [] found p.0 p.1 p.2 x p.3 p.4 p.5
    | inr p ↦
        let t = each_in c.tests (λ g. Holds c ts S g × Each (variables_of_test g) (Settled S es rs)) p.0 tests p.3 in
        settled_in c ts S es stands rs p.1 x p.2 (each_in (variables_of_test p.0) (Settled S es rs) p.1 t.1 p.4) p.5 p.6
  ]),
)

-- at a place where the head has the variable x
pub stands_at : {S : VarName → Option Tree} {ts : List Tree} (es : List (VarName × Tree)) {p : List ℕ} {x : VarName} {t : Tree} → At S ts p t → finite.find name_cmp x es ≡ Some t → Stands S ts es p (variable x)
stands_at es {t = t} a e y s = let same = same_variable s in (t, a, ap (λ z. finite.find name_cmp z es) (sym same) ∙ e)

-- at a place where the head has a value
pub stands_value : {S : VarName → Option Tree} {ts : List Tree} (es : List (VarName × Tree)) {p : List ℕ} {h : Tree} → IsValue h → Stands S ts es p h
stands_value es v y s = absurd (value_not s v)
