-- Values under variables, of which those under the first variables of steps stand in a list by step.
use Rattle.ghc_term.proofs.Words.{◌≡◌, ◌≢◌, ◌+◌, ◌∷◌, ◌++◌, ◌⊎◌, inl, inr, ℕ, true, false, List, length, refl, sym, ap, ◌∙◌, nat_eq, Option, Some, None, option_or, eqb-true, VarName, name_cmp, var_inj, first_of, first_variables, values_in, values_of, first_at}
use Rattle.std.specs.FinMap as finite
use Rattle.ghc_term.proofs.Names.{name_total, name_antisymmetric}
use Rattle.ghc_term.proofs.Slots as slots

pub first_is : (x : VarName) → x.place ≡ 1 → first_of x.step ≡ x
first_is x h = var_inj (first_of x.step) x refl (sym h)

-- a variable has a place in the list, or is none of the first of steps
placed : (q : VarName) → ((s : ℕ) × (first_of s ≡ q)) ⊎ ((s : ℕ) → first_of s ≢ q)
placed q = elim (nat_eq q.place 1) as (λ b. nat_eq q.place 1 ≡ b → ((s : ℕ) × (first_of s ≡ q)) ⊎ ((s : ℕ) → first_of s ≢ q)) [
  | true ↦ λ e. inl (q.step, first_is q (eqb-true q.place 1 e))
  | false ↦ λ e. inr (λ s f. let clash : true ≡ false = ap (λ x. nat_eq x.place 1) f ∙ e in cc)
] refl

pub none_in : {V : Type 0} (es : List (VarName × V)) (x : VarName) → length es ≡ 0 → None ≡ finite.get (values_in es) x
none_in = slots.none_in name_cmp

module _ {V : Type 0} where
  pub firsts : slots.Listing name_cmp first_of (λ (o : Option V). o) None first_variables
  firsts = record {
    total = name_total;
    alike = name_antisymmetric;
    once = λ s t e. ap (λ x. x.step) e;
    placed = placed;
    blank_is = refl;
    empty = λ n. refl;
    more = λ n o vs. elim o as (λ o. first_variables n (o ∷ vs) ≡ slots.slot (first_of n) o ++ first_variables (n + 1) vs) [ None ↦ refl | Some v ↦ refl ];
  }

  pub far : (vs : List (Option V)) (x : VarName) → x.place ≢ 1 → finite.find name_cmp x (first_variables 0 vs) ≡ None
  far vs x h = slots.own_far firsts vs x (λ s e. h (sym (ap (λ y. y.place) e)))

  pub value_first : (vs : List (Option V)) (es : List (VarName × V)) (x : VarName) → x.place ≡ 1 → finite.get (values_of vs es) x ≡ option_or (first_at vs x.step) (finite.get (values_in es) x)
  value_first vs es x h = slots.value_near firsts vs es x.step x (first_is x h)
