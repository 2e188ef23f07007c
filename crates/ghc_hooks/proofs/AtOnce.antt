-- What trees reach, where that is seen at once.
use Rattle.ghc_hooks.proofs.Words.{◌≡◌, ℕ, ◌+◌, ◌<◌, List, length, get_or, take, sym, ap, ◌∙◌, subst, Bool, Option, Some, Result, Ok, Err, IsTrue, IfOk, VarName, Tree, variable, node, trees, Occurs, IsClosed, Variables, IsSetOf, Reaches, here, through, one_inserted, holds_nothing, Gains, OneReaches, occurs_among, argument_reaches, one_value, take_more, gains_more, arith}
use Rattle.std.specs.FinSet as set
use Rattle.ghc_hooks.proofs.Hearing.{gains_by}

module _ {S : VarName → Option Tree} where
  -- what is closed reaches nothing
  closed_reaches : (t : Tree) → ((y : VarName) → ¬ Occurs y t) → (x : VarName) → ¬ Reaches S t x
  closed_reaches t none x (here o) = none x o
  closed_reaches t none x (through {y = y} o e r) = none y o

  -- a variable whose value is closed reaches itself alone
  only_itself : (x y : VarName) → ((u : Tree) → S x ≡ Some u → (z : VarName) → ¬ Occurs z u) → Reaches S (variable x) y → y ≡ x
  only_itself x y shut (here o) = o
  only_itself x y shut (through {u = u} o e r) = absurd (closed_reaches u (shut u (ap S (sym o) ∙ e)) y r)

  pub gains_one : (old new : Variables) (x : VarName) (t : Tree) → variable x ≡ t → new ≡ set.insert old x → ((u : Tree) → S x ≡ Some u → (z : VarName) → ¬ Occurs z u) → Gains old new (Reaches S t)
  gains_one old new x t is e shut y = grind (arith, one_inserted, here, only_itself)

  -- one tree after another
  pub gains_next : (old now new : Variables) (ts : List Tree) (i : ℕ) (d : Tree) → i < length ts → Gains old now (OneReaches S (take i ts)) → Gains now new (Reaches S (get_or ts i d)) → Gains old new (OneReaches S (take (i + 1) ts))
  gains_next old now new ts i d within before step =
      rw (take_more ts i d within) (gains_more (Reaches S) old now new (take i ts) (get_or ts i d) before step)

  -- a structure reaches what its arguments reach
  among : (f : List ℕ) (ts : List Tree) (x : VarName) → Reaches S (node f (trees ts)) x → OneReaches S ts x
  among f ts x (here o) = let w = occurs_among ts x o in (w.0, w.1, here w.2)
  among f ts x (through {y = y} o e r) = let w = occurs_among ts y o in (w.0, w.1, through w.2 e r)

  gains_structure : (old new : Variables) (f : List ℕ) (ts : List Tree) (t : Tree) → node f (trees ts) ≡ t → Gains old new (OneReaches S ts) → Gains old new (Reaches S t)
  gains_structure old new f ts t is all = rw (← is) (gains_by old new (λ x. (λ w. argument_reaches f ts w.1 w.2, among f ts x)) all)

pub seen_structure : {E : Type 0} (S : VarName → Option Tree) (old new : Variables) (f : List ℕ) (ts : List Tree) (t : Tree) → node f (trees ts) ≡ t → (r : Result Bool E)
    → IfOk r (λ seen. IsTrue seen → Gains old new (OneReaches S ts)) → IfOk r (λ seen. IsTrue seen → Gains old new (Reaches S t))
seen_structure S old new f ts t is (Ok seen) all = λ yes. gains_structure old new f ts t is (all yes)
seen_structure S old new f ts t is (Err e) all = all

-- what an empty set gains is what it then has
pub all_gained : (P : VarName → Type 0) (old new : Variables) → old ≡ set.empty → Gains old new P → IsSetOf new P
all_gained P old new none all x = grind (arith, all x, holds_nothing old none x)

-- the value of a variable is one
pub shut_value : (o : Option Tree) (v : Tree) → o ≡ Some v → IsClosed v → (u : Tree) → o ≡ Some u → IsClosed u
shut_value o v is shut u e = subst IsClosed (one_value v u (sym is ∙ e)) shut
