-- A run of moves, as the code keeps it.
use Rattle.ghc_unify.proofs.Words.{◌≡◌, ◌-◌, ◌<◌, List, [], ◌∷◌, ◌++◌, length, sym, ap, ◌∙◌, subst, inl, inr, arith, append-nil, Option, None, Result, Ok, Err, VarName, Fault, Answered, Tree, StoreValue, value_at, name_cmp, with_binding, name_total, name_antisymmetric, Moves, stay, with_bindings, Unifies, Clashes, Cycles, ComesTo, UnifyFails, clashes, cycles, FailsFrom, insert_is, none_more, unbound_below}
use Rattle.std.specs.FinMap as finite
use Rattle.std.specs.FinSet as set
use Rattle.ghc_unify.specs.declared.solve.Solved.{Solved}
use Rattle.ghc_unify.proofs.Bound.{moves_fresh}
use Rattle.ghc_unify.proofs.Growth.{union_append, union_empty}
use Rattle.ghc_unify.proofs.Falling.{one_more_move}
use Rattle.ghc_unify.proofs.Refusals.{HandedOn}
use Rattle.ghc_unify.proofs.Scope.{scope, few_binds, one_bound}

-- from the equation l = r a run has come to these bindings, reads and equations
pub record Run (S : VarName → Option Tree) (l r : Tree) (binds : StoreValue) (reads : set.FinSet name_cmp) (es : List (Tree × Tree)) : Type 0 where
  pub bound : List (VarName × Tree)
  pub read : List VarName
  pub moves : Moves S S ((l, r) ∷ []) (with_bindings binds S) es bound read
  pub binds_are : binds ≡ finite.from_entries bound
  pub reads_are : reads ≡ set.from_list read

pub begins : (S : VarName → Option Tree) (l r : Tree) (binds : StoreValue) (reads : set.FinSet name_cmp) (es : List (Tree × Tree)) → binds ≡ finite.empty → reads ≡ set.empty → es ≡ (l, r) ∷ [] → Run S l r binds reads es
begins S l r binds reads es b e q =
    record {
      bound = [];
      read = [];
      moves = subst (λ W. Moves S S ((l, r) ∷ []) W es [] []) (sym (none_more binds S b)) (subst (λ z. Moves S S ((l, r) ∷ []) S z [] []) (sym q) stay);
      binds_are = b;
      reads_are = e;
    }

module _ {S : VarName → Option Tree} {l r : Tree} {binds : StoreValue} {reads : set.FinSet name_cmp} {es : List (Tree × Tree)} (run : Run S l r binds reads es) where
  abbrev T : VarName → Option Tree
  T = with_bindings binds S

  reads_grow : {grown : set.FinSet name_cmp} (qs : List VarName) → grown ≡ set.union reads (set.from_list qs) → grown ≡ set.from_list (run.read ++ qs)
  reads_grow qs e =
      e ∙ ap (λ s. set.union s (set.from_list qs)) (run.reads_are ∙ sym (union_empty run.read)) ∙ union_append set.empty run.read qs ∙ union_empty (run.read ++ qs)

  -- moves that bind nothing, and a binding more
  pub stays : {fs : List (Tree × Tree)} {grown : set.FinSet name_cmp}
      → (rs : List VarName) × Moves S T es T fs [] rs × (grown ≡ set.union reads (set.from_list rs)) → Run S l r binds grown fs
  stays a = record {
    bound = run.bound ++ [];
    read = run.read ++ a.0;
    moves = one_more_move run.moves a.1;
    binds_are = run.binds_are ∙ ap finite.from_entries (sym (append-nil run.bound));
    reads_are = reads_grow a.0 a.2;
  }

  pub goes_on : {fs : List (Tree × Tree)} {grown : set.FinSet name_cmp} {x : VarName} {t : Tree} {after : StoreValue}
      → (rs : List VarName) × Moves S T es (with_binding T x t) fs ((x, t) ∷ []) rs × (grown ≡ set.union reads (set.from_list rs))
      → after ≡ finite.insert binds x t → Run S l r after grown fs × (value_at binds x ≡ None)
  goes_on {fs = fs} {x = x} {t = t} a i =
      let free = (unbound_below binds S x (moves_fresh a.1).0).0 in
      let new = sym (finite.get-from_entries name_total run.bound x) ∙ ap (λ m. value_at m x) (sym run.binds_are) ∙ free in
      let same : with_binding T x t ≡ with_bindings _ S = insert_is binds S x t ∙ ap (λ m. with_bindings m S) (sym i) in (
        record {
          bound = run.bound ++ (x, t) ∷ [];
          read = run.read ++ a.0;
          moves = subst (λ W. Moves S S ((l, r) ∷ []) W fs (run.bound ++ (x, t) ∷ []) (run.read ++ a.0)) same (one_more_move run.moves a.1);
          binds_are = i ∙ ap (λ m. finite.insert m x t) run.binds_are ∙ sym (finite.from_entries_push name_total name_antisymmetric run.bound x t new);
          reads_are = reads_grow a.0 a.2;
        },
        free,
      )

  pub fails : (F : (VarName → Option Tree) → Tree → Tree → Type 0) → FailsFrom F S (with_bindings binds S) es → ComesTo F S l r
  fails F f = (f.0, f.1, f.2, f.3, run.bound ++ f.4, run.read ++ f.5, one_more_move run.moves f.6, f.7)

pub ends : {S : VarName → Option Tree} {l r : Tree} {binds : StoreValue} {reads : set.FinSet name_cmp} → Run S l r binds reads [] → Unifies S l r binds reads
ends {S = S} {binds = binds} run = (run.bound, run.read, (with_bindings binds S, run.moves), run.binds_are, run.reads_are)

-- what is left to bind
pub falls_short : (s : StoreValue) {l r : Tree} (binds : StoreValue) {after : StoreValue} {reads : set.FinSet name_cmp} {es : List (Tree × Tree)}
    (x : VarName) (t : Tree) → Run (value_at s) l r after reads es × (value_at binds x ≡ None) → after ≡ finite.insert binds x t
    → length (scope s l r) - finite.len after < length (scope s l r) - finite.len binds
falls_short s {l = l} {r = r} binds {after = after} {es = es} x t run i =
    let most = few_binds s l r (with_bindings after (value_at s)) es run.0.bound run.0.read after run.0.moves run.0.binds_are in
    let more = ap finite.len i ∙ one_bound binds x t run.1 in
    omega (arith, most, more)

-- the answer of a unification, or why it fails
pub answered : (S : VarName → Option Tree) (l r : Tree) (result : Result Solved Fault) → HandedOn (λ (s : Solved). Unifies S l r s.binds s.reads) (Clashes S l r) (Cycles S l r) result
    → Answered (λ (s : Solved). Unifies S l r s.binds s.reads) (UnifyFails S l r) result
answered S l r (Ok s) h = (h.ok, tt)
answered S l r (Err f) h = (
  tt,
  elim h.only [
    | inl e ↦ inr (rw e (clashes (h.clash (ap Err e))))
    | inr q ↦ elim q [ inl e ↦ inr (rw e (cycles (h.cycle (ap Err e)))) | inr e ↦ inl e ]
  ],
)
