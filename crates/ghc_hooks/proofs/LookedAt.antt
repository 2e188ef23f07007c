-- A goal waits only for what it looks at, and what it looks at is decided by itself.
use Rattle.ghc_hooks.proofs.Words.{◌≡◌, List, [], ◌∷◌, inl, inr, refl, sym, subst, ◌∙◌, Option, true, false, IsTrue, VarName, Tree, variable, Expression, leaf, operation, Goal, call, unify, assign, stream, Leads, at_integer, at_node, at_free, along, Comes, now, on, Passes, Reaches, here, through, Clause, Program, WaitsFor, LooksAt, ExpressionReaches, GoalLooksAt, looks_there, looks_back, leaf_reaches, passes_reaches, Status, ready, waiting, failed, streaming, HasStatus, is_waiting, awaits, GoalsWaitForWhatTheyLookAt, LookedIsOfWhatIsLookedAt, ExactNotesStayExact, ExactNotesAwaitWhatIsLookedAt, ◌⊎◌, ◌↔◌}
use Rattle.std.proofs.Math.Logic.{⊎_map}
use Rattle.ghc_hooks.proofs.NotedFaces.{through as in_turn}
use Rattle.ghc_hooks.proofs.Statuses.{status_there}

-- where a chain ends in a variable it passes it
end_passed : {S : VarName → Option Tree} {t e : Tree} {xs : List VarName} {x : VarName} → Leads S t xs e → e ≡ variable x → Passes S t x
end_passed at_integer e = cc
end_passed at_node e = cc
end_passed {S = S} {x = x} (at_free {x = z} p) e = let same : z ≡ x = cc in ([], subst (λ y. Comes S (variable z) [] y) same now)
end_passed (along {x = z} p l) e = let r = end_passed l e in (z ∷ r.0, on p r.1)

clause_looks : (c : Clause) (ts : List Tree) (S : VarName → Option Tree) (x : VarName) → WaitsFor c ts S x → LooksAt c ts S x
clause_looks c ts S x (inl w) = let h = w.1 in inl (h.0, h.1, h.2, h.4, h.5, end_passed h.6 refl)
clause_looks c ts S x (inr w) = let g = w.2 in let y = g.2 in let t = y.2 in inr (g.0, y.0, t.0, g.1, y.1, t.2, end_passed t.3 refl)

pub waits_for_looked : GoalsWaitForWhatTheyLookAt
waits_for_looked P S (call f ts) x w = (w.0, w.1, w.2, w.3, clause_looks w.1 ts S x w.4)
waits_for_looked P S (unify l r) x w = absurd w
waits_for_looked P S (assign t a) x w = let p = end_passed w.2.1 refl in inr (leaf_reaches a w.0 x w.1 (passes_reaches p.1))
waits_for_looked P S (stream k y) x w = absurd w

-- equivalences side by side
either_alike : {A B C D : Type 0} → A ↔ B → C ↔ D → (A ⊎ C) ↔ (B ⊎ D)
either_alike p q = (⊎_map p.0 q.0, ⊎_map p.1 q.1)

module _ (S T : VarName → Option Tree) where
  reaches_there : {t : Tree} {x : VarName} → Reaches S t x → ((y : VarName) → Reaches S t y → S y ≡ T y) → Reaches T t x
  reaches_there (here o) h = here o
  reaches_there (through {y = y} o p r) h = through o (sym (h _ (here o)) ∙ p) (reaches_there r (λ z q. h z (through o p q)))

  reaches_back : {t : Tree} {x : VarName} → Reaches T t x → ((y : VarName) → Reaches S t y → S y ≡ T y) → Reaches S t x
  reaches_back (here o) h = here o
  reaches_back (through o p r) h = let was = h _ (here o) ∙ p in through o was (reaches_back r (λ z q. h z (through o was q)))

  both_ways : {t : Tree} → ((y : VarName) → Reaches S t y → S y ≡ T y) → (x : VarName) → Reaches S t x ↔ Reaches T t x
  both_ways h x = (λ r. reaches_there r h, λ r. reaches_back r h)

  expression_alike : (a : Expression) → ((y : VarName) → ExpressionReaches S a y → S y ≡ T y)
      → (x : VarName) → ExpressionReaches S a x ↔ ExpressionReaches T a x
  expression_alike (leaf t) h x = both_ways h x
  expression_alike (operation o a b) h x = either_alike (expression_alike a (λ y q. h y (inl q)) x) (expression_alike b (λ y q. h y (inr q)) x)

pub looked_alike : LookedIsOfWhatIsLookedAt
looked_alike P S T (call f ts) h x = (
  λ l. (l.0, l.1, l.2, l.3, looks_there l.1 ts S T (λ y m. sym (h y (l.0, l.1, l.2, l.3, m))) x l.4),
  λ l. (l.0, l.1, l.2, l.3, looks_back l.1 ts S T (λ y m. sym (h y (l.0, l.1, l.2, l.3, m))) x l.4),
)
looked_alike P S T (unify l r) h x = either_alike (both_ways S T (λ y q. h y (inl q)) x) (both_ways S T (λ y q. h y (inr q)) x)
looked_alike P S T (assign t a) h x = either_alike (both_ways S T (λ y q. h y (inl q)) x) (expression_alike S T a (λ y q. h y (inr q)) x)
looked_alike P S T (stream k s) h x = (λ l. l, λ l. l)

pub exact_stays : ExactNotesStayExact
exact_stays P S T g note exact h = (status_there P S T g note.status exact.0 h, λ x. in_turn (exact.1 x) (looked_alike P S T g h x))

awaited_looked : (P : Program) (S : VarName → Option Tree) (g : Goal) (s : Status) → HasStatus P S g s → (x : VarName) → IsTrue (awaits s x) → GoalLooksAt P S g x
awaited_looked P S g ready h x i = let clash : false ≡ true = i in cc
awaited_looked P S g (waiting xs) (is_waiting p m) x i = waits_for_looked P S g x ((m x).0 i)
awaited_looked P S g (failed f) h x i = let clash : false ≡ true = i in cc
awaited_looked P S g streaming h x i = let clash : false ≡ true = i in cc

pub exact_awaits : ExactNotesAwaitWhatIsLookedAt
exact_awaits P S g note exact x i = (exact.1 x).1 (awaited_looked P S g note.status exact.0 x i)
