-- The laws, from runs with lists to bindings as maps and reads as sets.
use Rattle.ghc_unify.proofs.Words.{◌≡◌, List, [], ◌∷◌, refl, sym, ap, ◌∙◌, subst, inl, inr, Option, Some, None, IsTrue, option_or, VarName, Fault, Tree, exact, In, IsAcyclic, value_at, Unifies, UnifyFails, clashes, cycles, Solved, solved, clash, cycle, with_bindings, met, Move, shared, left, right, both, Moves, stay, go, UnificationIsLocal, UnificationBindsAndReads, UnificationKeepsAcyclic, UnificationHasOneEnding, UnifyIsExact, UnificationsCommute, name_total, In_either, in_set, set_in}
use Rattle.std.specs.FinMap as finite
use Rattle.std.specs.FinSet as set
use Rattle.ghc_unify.specs.declared.solve.Solved.{Solved as Answer}
use Rattle.ghc_unify.proofs.Locality.{by_value, locality}
use Rattle.ghc_unify.proofs.Bound.{bound_by, bound_is, map_bound, moves_bound, moves_fresh, unbound_before, IsBoundIn, Fresh, has_value}
use Rattle.ghc_unify.proofs.Acyclic.{moves_acyclic}
use Rattle.ghc_unify.proofs.Once.{solved_once, solved_no_clash, solved_no_cycle, clash_no_cycle}
use Rattle.ghc_unify.proofs.Commute.{commute}

pub is_local : UnificationIsLocal
is_local S S' l r binds reads u c =
    let same : Solved S' l r u.0 u.1 = locality S S' l r u.0 u.1 u.2 (record { less = c.less; kept = λ x i. c.kept x (rw u.4 (in_set x u.1 i)) }) in
    (u.0, u.1, same, u.3, u.4)

-- what the run reads was bound before it
met_bound : (S : VarName → Option Tree) (a : List VarName) (x : VarName) → In x (met S a) → (t : Tree) × (S x ≡ Some t)
met_bound S [] x i = absurd i
met_bound S (y ∷ a) x i =
    by_value (S y) (λ n. met_bound S a x (rw n at i)) (λ t e.
    let j : In x (y ∷ met S a) = rw e at i in
    elim j [ inl p ↦ (t, ap S p ∙ e) | inr k ↦ met_bound S a x k ])

read_bound : {S T U : VarName → Option Tree} {es fs : List (Tree × Tree)} {bs : List (VarName × Tree)} {rs : List VarName} → Move S T es U fs bs rs → (x : VarName) → In x rs → (t : Tree) × (S x ≡ Some t)
read_bound {S = S} (shared {a = a} {b = b} p q f) x i = elim (In_either (met S a) (met S b) x i) [ inl j ↦ met_bound S a x j | inr j ↦ met_bound S b x j ]
read_bound {S = S} (left {a = a} p n o) x i = met_bound S a x i
read_bound {S = S} (right {a = a} {b = b} k v g n o) x i = elim (In_either (met S a) (met S b) x i) [ inl j ↦ met_bound S a x j | inr j ↦ met_bound S b x j ]
read_bound {S = S} (both {a = a} {b = b} p q apart m) x i = elim (In_either (met S a) (met S b) x i) [ inl j ↦ met_bound S a x j | inr j ↦ met_bound S b x j ]

reads_bound : {S T V : VarName → Option Tree} {es gs : List (Tree × Tree)} {bs : List (VarName × Tree)} {rs : List VarName} → Moves S T es V gs bs rs → (x : VarName) → In x rs → (t : Tree) × (S x ≡ Some t)
reads_bound stay x i = absurd i
reads_bound (go {rs = rs} {qs = qs} m ms) x i = elim (In_either rs qs x i) [ inl j ↦ read_bound m x j | inr j ↦ reads_bound ms x j ]

pub binds_and_reads : UnificationBindsAndReads
binds_and_reads S l r binds reads u = record {
  binds_new = λ x t e. unbound_before u.0 S x (moves_fresh u.2.1) (map_bound u.0 x t (sym (finite.get-from_entries name_total u.0 x) ∙ ap (λ m. value_at m x) (sym u.3) ∙ e));
  reads_bound = λ x c. reads_bound u.2.1 x (set_in x u.1 (subst (λ s. IsTrue (set.contains s x)) u.4 c));
}

pub keeps_acyclic : UnificationKeepsAcyclic
keeps_acyclic S l r binds reads h u =
    let is = moves_bound u.2.1 ∙ bound_is u.0 S (moves_fresh u.2.1) ∙ ap (λ m. with_bindings m S) (sym u.3) in
    subst IsAcyclic is (moves_acyclic u.2.1 h)

pub one_ending : UnificationHasOneEnding
one_ending S l r (solved binds reads) (solved binds' reads') h u v = let o = solved_once h u.2 v.2 in cc
one_ending S l r (solved binds reads) clash h u v = absurd (solved_no_clash h u.2 v)
one_ending S l r (solved binds reads) cycle h u v = absurd (solved_no_cycle h u.2 v)
one_ending S l r clash (solved binds reads) h u v = absurd (solved_no_clash h v.2 u)
one_ending S l r clash cycle h u v = absurd (clash_no_cycle h u v)
one_ending S l r cycle (solved binds reads) h u v = absurd (solved_no_cycle h v.2 u)
one_ending S l r cycle clash h u v = absurd (clash_no_cycle h v u)
one_ending S l r e f h u v = refl

-- bindings that the map does not have, the run does not have
not_bound : (bs : List (VarName × Tree)) (S : VarName → Option Tree) (x : VarName) → Fresh bs S → value_at (finite.from_entries bs) x ≡ None → ¬ IsBoundIn bs x
not_bound bs S x f e i =
    let v = has_value bs S x i in
    let clash : None ≡ Some v.0 = sym (ap (λ T. T x) (bound_is bs S f) ∙ ap (λ o. option_or o (S x)) e ∙ unbound_before bs S x f i) ∙ v.1 in
    cc

pub change_places : UnificationsCommute
change_places S l r l' r' binds binds' reads reads' u v none acyclic =
    let bs = u.0 in
    let cs = v.0 in
    let first = with_bindings binds S in
    let fresh = moves_fresh u.2.1 in
    let is : bound_by bs S ≡ first = bound_is bs S fresh ∙ ap (λ m. with_bindings m S) (sym u.3) in
    let later : Solved (bound_by bs S) l' r' cs v.1 = subst (λ T. Solved T l' r' cs v.1) (sym is) v.2 in
    let is' : bound_by cs (bound_by bs S) ≡ with_bindings binds' first = ap (bound_by cs) is ∙ bound_is cs first (moves_fresh v.2.1) ∙ ap (λ m. with_bindings m first) (sym v.3) in
    let c = commute S l r l' r' bs cs u.1 v.1 u.2 later
    (λ x i. not_bound bs S x fresh (ap (λ m. value_at m x) (sym u.3) ∙ none x (subst (λ s. IsTrue (set.contains s x)) (sym v.4) (in_set x v.1 i))))
    (subst IsAcyclic (sym is') acyclic) in
    let other : bound_by cs S ≡ with_bindings binds' S = bound_is cs S (moves_fresh c.0.1) ∙ ap (λ m. with_bindings m S) (sym v.3) in
    let back : bound_by bs (bound_by cs S) ≡ with_bindings binds (with_bindings binds' S) =
    bound_is bs (bound_by cs S) (moves_fresh c.1.1) ∙ ap (λ m. with_bindings m (bound_by cs S)) (sym u.3) ∙ ap (with_bindings binds) other in (
      (cs, v.1, c.0, v.3, v.4),
      (bs, u.1, subst (λ T. Solved T l r bs u.1) other c.1, u.3, u.4),
      λ x. sym (ap (λ T. T x) back) ∙ c.2 x ∙ ap (λ T. T x) is',
    )

-- what is answered is exact
one_solved : (S : VarName → Option Tree) (l r : Tree) → IsAcyclic S → (s t : Answer) → Unifies S l r s.binds s.reads → Unifies S l r t.binds t.reads → s ≡ t
one_solved S l r acyclic s t u v =
    let same : solved s.binds s.reads ≡ solved t.binds t.reads = one_ending S l r (solved s.binds s.reads) (solved t.binds t.reads) acyclic u v in
    let binds : s.binds ≡ t.binds = cc in
    let reads : s.reads ≡ t.reads = cc in
    λ i. record { binds = binds i; reads = reads i }

one_failure : (S : VarName → Option Tree) (l r : Tree) → IsAcyclic S → (f g : Fault) → UnifyFails S l r f → UnifyFails S l r g → f ≡ g
one_failure S l r acyclic f g (clashes a) (cycles b) = let same : clash ≡ cycle = one_ending S l r clash cycle acyclic a b in cc
one_failure S l r acyclic f g (cycles a) (clashes b) = let same : cycle ≡ clash = one_ending S l r cycle clash acyclic a b in cc
one_failure S l r acyclic f g p q = refl

never_fails : (S : VarName → Option Tree) (l r : Tree) → IsAcyclic S → (s : Answer) (f : Fault) → Unifies S l r s.binds s.reads → ¬ UnifyFails S l r f
never_fails S l r acyclic s f u (clashes a) = let same : solved s.binds s.reads ≡ clash = one_ending S l r (solved s.binds s.reads) clash acyclic u a in cc
never_fails S l r acyclic s f u (cycles a) = let same : solved s.binds s.reads ≡ cycle = one_ending S l r (solved s.binds s.reads) cycle acyclic u a in cc

pub unify_exact : UnifyIsExact
unify_exact S l r result acyclic = exact (one_solved S l r acyclic) (one_failure S l r acyclic) (never_fails S l r acyclic) result
