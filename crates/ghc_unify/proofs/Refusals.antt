-- Refusals that are handed on, and what a view that is no variable shows.
use Rattle.ghc_unify.proofs.Words.{◌≡◌, refl, sym, subst, ◌⊎◌, Result, Ok, Err, IfOk, IfErr, IsErrAnd, Fault, Clash, Cycle, Memory, VarName, TermView, Var, Tree, IsValue, shown}

abbrev pub Known : Fault → Type 0
Known f = (f ≡ Clash) ⊎ (f ≡ Cycle) ⊎ (f ≡ Memory)

-- what a refusal with these causes says of the result
pub record HandedOn {A : Type 0} (P : A → Type 0) (C D : Type 0) (r : Result A Fault) : Type 0 where
  pub ok : IfOk r P
  pub clash : r ≡ Err Clash → C
  pub cycle : r ≡ Err Cycle → D
  pub only : IfErr r Known

pub handed_on : {A : Type 0} {P : A → Type 0} {C D : Type 0} {f : Fault} (r : Result A Fault) → IsErrAnd r (λ e. e ≡ f) → (f ≡ Clash → C) → (f ≡ Cycle → D)
    → Known f → HandedOn P C D r
handed_on (Ok a) h c d o = absurd h
handed_on (Err e) h c d o = record { ok = tt; clash = λ q. c (cc); cycle = λ q. d (cc); only = subst Known (sym h) o }

-- the fault of a refusal that is handed on
pub fault_is : {A : Type 0} {f g : Fault} (r : Result A Fault) → IsErrAnd r (λ e. e ≡ f) → r ≡ Err g → f ≡ g
fault_is (Ok a) h q = absurd h
fault_is (Err e) h q = cc

-- a refusal is no answer
pub no_answer : {A B : Type 0} (P : A → Type 0) (Q : B → Type 0) (r : Result A B) → IsErrAnd r Q → IfOk r P
no_answer P Q (Ok a) h = absurd h
no_answer P Q (Err e) h = tt

-- an end that is no variable is a value
pub value_of : (v : TermView) (e : Tree) → ((x : VarName) → v ≡ Var x → ⊥) → shown v ≡ e → IsValue e
value_of v e h is = subst IsValue is (go v h)
  where
    go : (v : TermView) → ((x : VarName) → v ≡ Var x → ⊥) → IsValue (shown v)
    go (Var x) h = absurd (h x refl)
    go v h = tt
