-- What is found of a part and of what it was given, one step or variable after another.
use Rattle.ghc_trace.proofs.Words.{◌≡◌, ◌⊎◌, ℕ, suc, ◌+◌, ◌≤◌, List, [], ◌∷◌, ◌++◌, append_assoc, append-nil, length, drop, refl, sym, ap, ◌∙◌, subst, inl, inr, arith, ◌↔◌, Option, Some, None, option_or, IsTrue, Bool, true, false, cond, eq_by_cmp, nat_cmp, nat_cmp_total, nat_cmp-IsAntisymmetric, in_contains, contains_in, VarName, Tree, In, in_left, in_last, in_more, StoreValue, value_at, name_cmp, IsAcyclic, bound_at, Record, numbers, SlotList, held_in, stands_held, StandsIn, is_some}
use Rattle.std.proofs.lemmas.List.{drop_all}
use Rattle.std.proofs.lemmas.Map.Views.{btree_set_contains_iff}
use Rattle.std.specs.BTreeSet.{BTreeSet, contains}
use Rattle.std.specs.FinMap as finite
use Rattle.ghc_term.proofs.Chains.{reaches_more}
use Rattle.ghc_term.proofs.Names.{itself, name_total, same_name}
use Rattle.ghc_term.specs.Store.{with_binds}
use Rattle.ghc_records.proofs.SlotLemmas.{held_stands}
use Rattle.ghc_depend.proofs.Finding.{by_option}
use Rattle.ghc_depend.specs.Depend.{MakesVariable}
use Rattle.ghc_depend.specs.inner.Sources.{IsPlaceOfOne}
use Rattle.ghc_trace.specs.inner.PartsCode.{BindsAlone, IsMadeInside}
use Rattle.ghc_trace.proofs.Slicing.{opened, step_at}

-- what is not nothing is a value
pub some_value : {X : Type 0} (o : Option X) → ¬ (o ≡ None) → (x : X) × (o ≡ Some x)
some_value None n = absurd (n refl)
some_value (Some x) n = (x, refl)

pub no_value : {X : Type 0} (o : Option X) → is_some o ≡ false → o ≡ None
no_value None e = refl
no_value (Some x) e = cc

-- whether a number is in a set
pub in_numbers : (s : BTreeSet ℕ) (n : ℕ) (t : Bool) → t ≡ contains nat_cmp s n → IsTrue t ↔ In n s.keys
in_numbers s n t is =
    let by_keys = btree_set_contains_iff nat_cmp_total nat_cmp-IsAntisymmetric s n in
    (λ yes. contains_in s.keys n (by_keys.0 (sym is ∙ yes)), λ i. is ∙ by_keys.1 (in_contains s.keys n i))

-- the numbers of what stands in front of a place were listed
module _ (ss : SlotList) (place : ℕ) (items : List ℕ) (so_far : items ++ numbers (held_in (drop place ss)) ≡ numbers (held_in ss)) where
  next : drop (place + 1) ss ≡ drop (suc place) ss
  next = let one : place + 1 ≡ suc place = omega arith in ap (λ k. drop k ss) one

  pub number_on : (a : Record) → StandsIn ss place a → (items ++ a.number ∷ []) ++ numbers (held_in (drop (place + 1) ss)) ≡ numbers (held_in ss)
  number_on a at =
      append_assoc items (a.number ∷ []) (numbers (held_in (drop (place + 1) ss))) ∙ ap (λ l. items ++ a.number ∷ numbers (held_in l)) next ∙ ap (λ l. items ++ numbers l) (sym (opened ss place a at)) ∙ so_far

  pub gap_on : ((a : Record) → ¬ StandsIn ss place a) → items ++ numbers (held_in (drop (place + 1) ss)) ≡ numbers (held_in ss)
  gap_on none = elim (step_at ss place) [
    | inl e ↦ ap (λ l. items ++ numbers (held_in l)) next ∙ ap (λ l. items ++ numbers l) (sym e) ∙ so_far
    | inr a ↦ absurd (none a.0 a.1)
  ]

  pub numbers_end : length ss ≤ place → items ≡ numbers (held_in ss)
  numbers_end high = sym (append-nil items) ∙ ap (λ l. items ++ numbers (held_in l)) (sym (drop_all place ss high)) ∙ so_far

-- given are those of the variables xs of which Q holds
abbrev pub AreGiven : (VarName → Type 0) → List VarName → List VarName → Type 0
AreGiven Q xs given = (x : VarName) → In x given ↔ (In x xs × Q x)

module _ (Q : VarName → Type 0) (xs given : List VarName) (y : VarName) (h : AreGiven Q xs given) where
  pub given_one : Q y → AreGiven Q (xs ++ y ∷ []) (given ++ y ∷ [])
  given_one bound x = (
    λ i. elim (in_more given y x i) [
      | inl j ↦ let q = (h x).0 j in (in_left xs (y ∷ []) x q.0, q.1)
      | inr same ↦ (subst (λ z. In z (xs ++ y ∷ [])) (sym same) (in_last xs y), subst Q (sym same) bound)
    ],
    λ q. elim (in_more xs y x q.0) [
      | inl j ↦ in_left given (y ∷ []) x ((h x).1 (j, q.1))
      | inr same ↦ subst (λ z. In z (given ++ y ∷ [])) (sym same) (in_last given y)
    ],
  )

  pub given_still : ¬ Q y → AreGiven Q (xs ++ y ∷ []) given
  given_still not x = (
    λ i. let q = (h x).0 i in (in_left xs (y ∷ []) x q.0, q.1),
    λ q. elim (in_more xs y x q.0) [ inl j ↦ (h x).1 (j, q.1) | inr same ↦ absurd (not (subst Q same q.1)) ],
  )

module _ (S : VarName → Option Tree) where
  pub binds_nothing : BindsAlone [] S (value_at finite.empty)
  binds_nothing = record { those = λ x i. absurd i; only = λ x t e. let none : None ≡ Some t = sym (finite.get-empty name_cmp x) ∙ e in cc }

  module _ (xs : List VarName) (y : VarName) (binds : StoreValue) (h : BindsAlone xs S (value_at binds)) where
    -- the variable that is bound now, or another one
    put : (u : Tree) (x : VarName) → ((x ≡ y) × (value_at (finite.insert binds y u) x ≡ Some u)) ⊎ ((¬ (x ≡ y)) × (value_at (finite.insert binds y u) x ≡ value_at binds x))
    put u x =
        let now : value_at (finite.insert binds y u) x ≡ cond (eq_by_cmp name_cmp x y) (Some u) (value_at binds x) = finite.get-insert name_total binds y u x in
        elim (eq_by_cmp name_cmp x y) as (λ b. eq_by_cmp name_cmp x y ≡ b → value_at (finite.insert binds y u) x ≡ cond b (Some u) (value_at binds x)
        → ((x ≡ y) × (value_at (finite.insert binds y u) x ≡ Some u)) ⊎ ((¬ (x ≡ y)) × (value_at (finite.insert binds y u) x ≡ value_at binds x))) [
          | true ↦ λ e is. inl (same_name x y e, is)
          | false ↦ λ e is. inr (λ same. let clash : true ≡ false = sym (itself x) ∙ ap (λ z. eq_by_cmp name_cmp x z) same ∙ e in cc, is)
        ] refl now

    pub binds_one : (u : Tree) → S y ≡ Some u → BindsAlone (xs ++ y ∷ []) S (value_at (finite.insert binds y u))
    binds_one u is = record {
      those = λ x i. elim (put u x) [
        | inl p ↦ p.1 ∙ sym is ∙ ap S (sym p.0)
        | inr p ↦ elim (in_more xs y x i) [ inl j ↦ p.1 ∙ h.those x j | inr e ↦ absurd (p.0 e) ]
      ];
      only = λ x t e. elim (put u x) [
        | inl p ↦ subst (λ z. In z (xs ++ y ∷ [])) (sym p.0) (in_last xs y)
        | inr p ↦ in_left xs (y ∷ []) x (h.only x t (sym p.1 ∙ e))
      ];
    }

    pub binds_none : S y ≡ None → BindsAlone (xs ++ y ∷ []) S (value_at binds)
    binds_none free = record {
      those = λ x i. elim (in_more xs y x i) [
        | inl j ↦ h.those x j
        | inr e ↦ by_option (value_at binds x) (λ none. none ∙ sym free ∙ ap S (sym e)) (λ t b. h.those x (h.only x t b))
      ];
      only = λ x t e. in_left xs (y ∷ []) x (h.only x t e);
    }

-- what binds alone as an acyclic store does is acyclic
pub less_acyclic : (S U : VarName → Option Tree) (xs : List VarName) → IsAcyclic S → BindsAlone xs S U → IsAcyclic U
less_acyclic S U xs acyclic h x t e r =
    let within : (y : VarName) (u : Tree) → U y ≡ Some u → S y ≡ Some u = λ y u b. sym (h.those y (h.only y u b)) ∙ b in
    acyclic x t (within x t e) (reaches_more r within)

-- what is put into an empty store
pub put_alone : (binds : StoreValue) (x : VarName) → value_at (with_binds (finite.entries binds) finite.empty) x ≡ value_at binds x
put_alone binds x = bound_at binds finite.empty x ∙ by_option (value_at binds x)
    (λ none. ap (λ o. option_or o (value_at (finite.empty {R = name_cmp}) x)) none ∙ finite.get-empty name_cmp x ∙ sym none)
    (λ t e. ap (λ o. option_or o (value_at (finite.empty {R = name_cmp}) x)) e ∙ sym e)

pub alone_by : (S U V : VarName → Option Tree) (xs : List VarName) → ((x : VarName) → V x ≡ U x) → BindsAlone xs S U → BindsAlone xs S V
alone_by S U V xs same h = record { those = λ x i. same x ∙ h.those x i; only = λ x t e. h.only x t (sym (same x) ∙ e) }

-- whether a step inside made the variable
pub made_end : (kept : List Record) (ss : SlotList) (ns : List ℕ) (number : ℕ) (x : VarName) (place : Option ℕ) → kept ≡ held_in ss → IsPlaceOfOne ss (λ a. MakesVariable a x) place → ¬ (x.step ≡ number)
    → In x.step ns → (is_some place ≡ true) ↔ IsMadeInside kept ns number x
made_end kept ss ns number x None is h other i = (
  λ yes. let clash : false ≡ true = yes in cc,
  λ (not, (q, j, number_in, makes)). let at = held_stands ss q (subst (In q) is j) in absurd (h at.0 q at.1 makes),
)
made_end kept ss ns number x (Some p) is h other i = (
  λ _. let a = h.0 in (other, (a.0, subst (In a.0) (sym is) (stands_held ss p a.0 a.1), subst (λ k. In k ns) a.2.0 i, a.2)),
  λ _. refl,
)
