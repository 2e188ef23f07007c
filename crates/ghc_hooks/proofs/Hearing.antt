-- What the clauses of some numbers say to a call.
use Rattle.ghc_hooks.proofs.Words.{◌≡◌, ℕ, true, false, List, [], ◌∷◌, ◌++◌, refl, subst, inl, inr, ◌⊎◌, ◌↔◌, Option, IsTrue, VarName, Tree, In, Variables, IsSetOf, in_left, in_last, in_more, not_both, holds_nothing, no_member, has_member, is_member, Clause, Program, IsClause, Accepts, Refuses, WaitsFor, LooksAt, HasOutcome, Gains, OneHas, has_more, refuses_waits, accepts_refuses, accepts_waits, clause_once, Heard, arith}
use Rattle.std.specs.FinSet as set
use Rattle.ghc_match.specs.Match.{waits}

-- a set gains what holds of the same
pub gains_by : {P Q : VarName → Type 0} (s new : Variables) → ((x : VarName) → P x ↔ Q x) → Gains s new P → Gains s new Q
gains_by s new same g x = grind (arith, same x, g x)

-- the empty set has all that no number has
none_had : (R : ℕ → VarName → Type 0) (s : Variables) → s ≡ set.empty → IsSetOf s (OneHas R [])
none_had R s e x = (λ i. absurd (holds_nothing s e x i), λ w. absurd w.1)

module _ (P : Program) (ts : List Tree) (S : VarName → Option Tree) where
  -- of the clause of this number Q says x
  abbrev pub AtNumber : (Clause → List Tree → (VarName → Option Tree) → VarName → Type 0) → ℕ → VarName → Type 0
  AtNumber Q k x = (c : Clause) × IsClause P k c × Q c ts S x

  -- what the clauses of these numbers say
  pub record IsHeard (ks : List ℕ) (h : Heard) : Type 0 where
    pub accepts : IsTrue h.accepts ↔ ((k : ℕ) × (c : Clause) × In k ks × IsClause P k c × Accepts c ts S)
    pub awaited : IsSetOf h.awaited (OneHas (AtNumber WaitsFor) ks)
    pub looked : IsSetOf h.looked (OneHas (AtNumber LooksAt) ks)

  -- nothing has been heard
  pub heard_nothing : (h : Heard) → h.accepts ≡ false → h.awaited ≡ set.empty → h.looked ≡ set.empty → IsHeard [] h
  heard_nothing h denied none nothing = record {
    accepts = (λ i. absurd (not_both h.accepts denied i), λ w. absurd w.2);
    awaited = none_had (AtNumber WaitsFor) h.awaited none;
    looked = none_had (AtNumber LooksAt) h.looked nothing;
  }

  -- what the clause has is what the clause of its number has
  by_number : (Q : Clause → List Tree → (VarName → Option Tree) → VarName → Type 0) (k : ℕ) (c : Clause) (s new : Variables) → IsClause P k c → Gains s new (Q c ts S) → Gains s new (AtNumber Q k)
  by_number Q k c s new is = gains_by s new (λ x. (λ q. (c, is, q), λ w. subst (λ z. Q z ts S x) (clause_once P w.1 is) w.2))

  -- one clause more
  pub heard_more : (h more : Heard) (ks : List ℕ) (k : ℕ) (c : Clause) → IsClause P k c → IsHeard ks h → (IsTrue more.accepts ↔ (IsTrue h.accepts ⊎ Accepts c ts S)) → Gains h.awaited more.awaited (WaitsFor c ts S)
      → Gains h.looked more.looked (LooksAt c ts S) → IsHeard (ks ++ k ∷ []) more
  heard_more h more ks k c is heard a w l = record {
    accepts = (
      λ i. elim (a.0 i) [
        | inl was ↦ let o = heard.accepts.0 was in (o.0, o.1, in_left ks (k ∷ []) o.0 o.2, o.3, o.4)
        | inr now ↦ (k, c, in_last ks k, is, now)
      ],
      λ o. a.1 (elim (in_more ks k o.0 o.2) [
        | inl i ↦ inl (heard.accepts.1 (o.0, o.1, i, o.3, o.4))
        | inr e ↦ inr (subst (λ z. Accepts z ts S) (clause_once P (subst (λ j. IsClause P j o.1) e o.3) is) o.4)
      ]),
    );
    awaited = has_more (AtNumber WaitsFor) h.awaited more.awaited ks k heard.awaited (by_number WaitsFor k c h.awaited more.awaited is w);
    looked = has_more (AtNumber LooksAt) h.looked more.looked ks k heard.looked (by_number LooksAt k c h.looked more.looked is l);
  }

-- where nothing was gathered the other set is taken over, and else each of its members is added
pub taken_over : (s t : Variables) → set.len s ≡ 0 → Gains s t (λ x. IsTrue (set.contains t x))
taken_over s t none x = (λ i. inr i, λ c. elim c [ inl i ↦ absurd (no_member s none x i) | inr i ↦ i ])

pub members_added : (s new other : Variables) (xs : List VarName) → set.from_list xs ≡ other → Gains s new (λ x. In x xs) → Gains s new (λ x. IsTrue (set.contains other x))
members_added s new other xs all = gains_by s new (λ x. (has_member other xs all x, is_member other xs all x))

-- a set gains nothing from what holds of nothing
gains_none : (s : Variables) (Q : VarName → Type 0) → ((x : VarName) → ¬ Q x) → Gains s s Q
gains_none s Q never x = (λ i. inl i, λ c. elim c [ inl a ↦ a | inr q ↦ absurd (never x q) ])

-- what a clause says to what was heard before
module _ (c : Clause) (ts : List Tree) (S : VarName → Option Tree) (h : Heard) where
  abbrev pub HeardToo : Heard → Type 0
  HeardToo more = (IsTrue more.accepts ↔ (IsTrue h.accepts ⊎ Accepts c ts S)) × Gains h.awaited more.awaited (WaitsFor c ts S) × (more.looked ≡ h.looked)

  same_acceptance : (¬ Accepts c ts S) → IsTrue h.accepts ↔ (IsTrue h.accepts ⊎ Accepts c ts S)
  same_acceptance never = (λ i. inl i, λ o. elim o [ inl i ↦ i | inr a ↦ absurd (never a) ])

  pub refusal_heard : Refuses c ts S → HeardToo h
  refusal_heard r = (same_acceptance (λ a. accepts_refuses c ts S a r), gains_none h.awaited (WaitsFor c ts S) (refuses_waits c ts S r), refl)

  pub wait_heard : (xs joined : Variables) → HasOutcome c ts S (waits xs) → Gains h.awaited joined (λ x. IsTrue (set.contains xs x)) → HeardToo (record h { awaited = joined })
  wait_heard xs joined w g = (same_acceptance (λ a. accepts_waits c ts S a w.1.0 w.1.1), gains_by h.awaited joined w.0 g, refl)

  pub acceptance_heard : Accepts c ts S → HeardToo (record h { accepts = true })
  acceptance_heard a = ((λ i. inr a, λ o. refl), gains_none h.awaited (WaitsFor c ts S) (accepts_waits c ts S a), refl)
