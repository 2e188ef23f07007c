-- How far the search for all that trees reach has come: which variables were reached, and which trees are still open.
use Rattle.ghc_hooks.proofs.Words.{◌≡◌, ℕ, ◌<◌, List, [], ◌∷◌, ◌++◌, refl, sym, ap, ◌∙◌, subst, inl, inr, ◌⊎◌, append-nil, Option, Some, IsTrue, VarName, Tree, variable, node, trees, Occurs, StoreValue, value_at, In, Variables, IsSetOf, Reaches, here, through, IsAcyclic, value_list, in_left, in_right, in_either, in_last, one_inserted, holds_nothing, StandsIn, sizes, falls_away, sees_falls, Expression, leaf, operation, ExpressionReaches, leaves, OneReaches, TakesUp, argument_reaches, list_is_value, occurs_among, stands_last, stands_left, stands_right, value_in_list, set_of, arith}
use Rattle.std.specs.FinSet as set
use Rattle.std.proofs.Math.Logic.{⊎_map}

-- the search from the trees `from`
pub record Reaching (T : VarName → Option Tree) (from : List Tree) (reached : Variables) (open_ones : List Tree) : Type 0 where
  pub first : (y : VarName) → StandsIn y from → IsTrue (set.contains reached y) ⊎ StandsIn y open_ones
  pub next : (x : VarName) → IsTrue (set.contains reached x) → (u : Tree) → T x ≡ Some u → (y : VarName) → Occurs y u → IsTrue (set.contains reached y) ⊎ StandsIn y open_ones
  pub sound : (x : VarName) → IsTrue (set.contains reached x) → OneReaches T from x
  pub leads : (t : Tree) → In t open_ones → (z : VarName) → Reaches T t z → OneReaches T from z

module _ {T : VarName → Option Tree} {from : List Tree} where
  pub started : (reached : Variables) → reached ≡ set.empty → Reaching T from reached from
  started reached none = record {
    first = λ y s. inr s;
    next = λ x i. absurd (holds_nothing reached none x i);
    sound = λ x i. absurd (holds_nothing reached none x i);
    leads = λ t i z r. (t, i, r);
  }

  -- a tree is taken from the end of the open ones, others come in its place, and more is reached
  pub replaced : (reached more : Variables) (rest new : List Tree) (t : Tree) → Reaching T from reached (rest ++ t ∷ [])
      → ((y : VarName) → IsTrue (set.contains reached y) → IsTrue (set.contains more y))
      → ((y : VarName) → Occurs y t → IsTrue (set.contains more y) ⊎ StandsIn y new)
      → ((x : VarName) → IsTrue (set.contains more x) → IsTrue (set.contains reached x) ⊎ (Occurs x t × ((u : Tree) → T x ≡ Some u → In u new)))
      → ((u : Tree) → In u new → (z : VarName) → Reaches T u z → Reaches T t z)
      → Reaching T from more (rest ++ new)
  replaced reached more rest new t s kept all only back =
      let on_ : (y : VarName) → IsTrue (set.contains reached y) ⊎ StandsIn y (rest ++ t ∷ []) → IsTrue (set.contains more y) ⊎ StandsIn y (rest ++ new) = λ y c.
      grind (arith, kept y, all y, stands_last rest t y, stands_left rest new y, stands_right rest new y) in
      record {
        first = λ y st. on_ y (s.first y st);
        next = λ x i u e y o. elim (only x i) [
          | inl was ↦ on_ y (s.next x was u e y o)
          | inr came ↦ inr (stands_right rest new y (u, came.1 u e, o))
        ];
        sound = λ x i. elim (only x i) [
          | inl was ↦ s.sound x was
          | inr came ↦ s.leads t (in_last rest t) x (here came.0)
        ];
        leads = λ u i z r. elim (in_either rest new u i) [
          | inl a ↦ s.leads u (in_left rest (t ∷ []) u a) z r
          | inr b ↦ s.leads t (in_last rest t) z (back u b z r)
        ];
      }

  -- nothing stands in the tree that is not reached
  passed : (reached : Variables) (rest : List Tree) (t : Tree) → Reaching T from reached (rest ++ t ∷ []) → ((y : VarName) → Occurs y t → IsTrue (set.contains reached y)) → Reaching T from reached rest
  passed reached rest t s all =
      subst (Reaching T from reached) (append-nil rest) (replaced reached reached rest [] t s (λ y i. i) (λ y o. inl (all y o)) (λ x i. inl i) (λ u i. absurd i))

  pub skips : (reached : Variables) (open_ones rest : List Tree) (t : Tree) → open_ones ≡ rest ++ t ∷ [] → ((y : VarName) → ¬ Occurs y t) → Reaching T from reached open_ones → Reaching T from reached rest
  skips reached open_ones rest t e none s = passed reached rest t (subst (Reaching T from reached) e s) (λ y o. absurd (none y o))

  -- a structure gives way to its arguments
  pub unfolds : (reached : Variables) (open_ones rest after ts : List Tree) (f : List ℕ) (t : Tree) → node f (trees ts) ≡ t → open_ones ≡ rest ++ t ∷ [] → after ≡ rest ++ ts
      → Reaching T from reached open_ones → Reaching T from reached after
  unfolds reached open_ones rest after ts f t is e g s = grind (arith, replaced, occurs_among, argument_reaches)

  -- a variable is taken up, and its value, if there is one, comes in its place
  pub takes_up : (reached more : Variables) (open_ones rest after : List Tree) (x : VarName) (t : Tree) → variable x ≡ t → open_ones ≡ rest ++ t ∷ [] → TakesUp T x reached more rest after
      → Reaching T from reached open_ones → Reaching T from more after
  takes_up reached more open_ones rest after x t is e d s =
      let s' = subst (λ z. Reaching T from reached (rest ++ z ∷ [])) (sym is) (subst (Reaching T from reached) e s) in
      elim d [
        | inl p ↦ rw (p.1, p.2) (passed reached rest (variable x) s' (λ y o. subst (λ z. IsTrue (set.contains reached z)) (sym o) p.0))
        | inr p ↦
            let one = one_inserted reached x in
            rw (p.0, p.1) (replaced reached (set.insert reached x) rest (value_list (T x)) (variable x) s'
            (λ y i. (one y).1 (inl i))
            (λ y o. inl ((one y).1 (inr o)))
            (λ y i. elim ((one y).0 i) [ inl was ↦ inl was | inr same ↦ inr (same, λ u b. value_in_list (T x) u (ap T (sym same) ∙ b)) ])
            (λ u i z r. through refl (list_is_value (T x) u i) r))
      ]

  -- nothing is open any more
  closed_under : (reached : Variables) → Reaching T from reached [] → {t : Tree} {x : VarName} → ((y : VarName) → Occurs y t → IsTrue (set.contains reached y)) → Reaches T t x → IsTrue (set.contains reached x)
  closed_under reached s all (here {x = x} o) = all x o
  closed_under reached s all (through {u = u} {y = y} o e r) = closed_under reached s (λ z q. elim (s.next y (all y o) u e z q) [ inl i ↦ i | inr b ↦ absurd b.1 ]) r

  pub finished : (reached : Variables) → Reaching T from reached [] → IsSetOf reached (OneReaches T from)
  finished reached s x = grind (arith, closed_under)

-- the open trees are fewer or smaller then
pub takes_up_falls : (s : StoreValue) → IsAcyclic (value_at s) → (reached more : Variables) (open_ones rest after : List Tree) (x : VarName) (t : Tree) → variable x ≡ t → open_ones ≡ rest ++ t ∷ []
    → TakesUp (value_at s) x reached more rest after → sizes s after < sizes s open_ones
takes_up_falls s acyclic reached more open_ones rest after x t is e d = elim d [
  | inl p ↦ subst (λ z. sizes s z < sizes s open_ones) (sym p.2) (falls_away s open_ones rest t e)
  | inr p ↦ sees_falls s (value_at s) acyclic refl [] (x ∷ []) open_ones rest after x t is e (inr (refl, p.1))
]

-- what the leaves of an expression reach, the expression reaches
leaves_there : (S : VarName → Option Tree) (a : Expression) (x : VarName) → ExpressionReaches S a x → OneReaches S (leaves a) x
leaves_there S (leaf t) x r = (t, inl refl, r)
leaves_there S (operation o a b) x (inl r) = let w = leaves_there S a x r in (w.0, in_left (leaves a) (leaves b) w.0 w.1, w.2)
leaves_there S (operation o a b) x (inr r) = let w = leaves_there S b x r in (w.0, in_right (leaves a) (leaves b) w.0 w.1, w.2)

leaves_back : (S : VarName → Option Tree) (a : Expression) (x : VarName) → OneReaches S (leaves a) x → ExpressionReaches S a x
leaves_back S (leaf t) x w = elim w.1 [ inl e ↦ subst (λ u. Reaches S u x) e w.2 | inr none ↦ absurd none ]
leaves_back S (operation o a b) x w =
    ⊎_map (λ i. leaves_back S a x (w.0, i, w.2)) (λ i. leaves_back S b x (w.0, i, w.2)) (in_either (leaves a) (leaves b) w.0 w.1)

pub with_leaves : (S : VarName → Option Tree) (ts : List Tree) (t : Tree) (a : Expression) (xs : Variables) → ts ≡ t ∷ leaves a → IsSetOf xs (OneReaches S ts) → IsSetOf xs (λ x. Reaches S t x ⊎ ExpressionReaches S a x)
with_leaves S ts t a xs e = grind (arith, set_of, leaves_back, leaves_there)
