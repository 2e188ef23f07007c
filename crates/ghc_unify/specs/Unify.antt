-- Unification: the moves on a list of equations, and how a run of moves ends.
use Rattle.std.specs.Prelude.{◌≡◌, ◌⊎◌, List, [], ◌∷◌, ◌++◌, filter, Option, None, is_some}
use Rattle.std.specs.FinMap as finite
use Rattle.std.specs.FinSet as set
use Rattle.ghc_term.specs.declared.var_name.VarName.{VarName}
use Rattle.ghc_term.specs.declared.fault.Fault.{Fault}
use Rattle.ghc_term.specs.Tree.{Tree, integer, node, Trees, none, more, IsValue}
use Rattle.ghc_term.specs.Lists.{In}
use Rattle.ghc_term.specs.Bindings.{Leads, Reaches, Comes, Passes, name_cmp, with_binding}
use Rattle.ghc_term.specs.Store.{StoreValue}
pub use Rattle.ghc_term.specs.Store.{with_bindings}

-- The arguments of two structures of one arity, side by side.
pub data Pairs : Trees → Trees → List (Tree × Tree) → Type 0 where
  no_more : Pairs none none []
  one_more : {t u : Tree} {ts us : Trees} {es : List (Tree × Tree)} → Pairs ts us es → Pairs (more t ts) (more u us) ((t, u) ∷ es)

-- Meets e f es: two values agree at the top, and the equations es are left of them.
pub data Meets : Tree → Tree → List (Tree × Tree) → Type 0 where
  integers : {k : _} → Meets (integer k) (integer k) []
  nodes : {f : _} {ts us : Trees} {es : List (Tree × Tree)} → Pairs ts us es → Meets (node f ts) (node f us) es

-- Those of the variables that are bound in S.
abbrev pub met : (VarName → Option Tree) → List VarName → List VarName
met S xs = filter (λ x. is_some (S x)) xs

-- Move S T es U fs bs rs: the first of the equations es is dealt with. S is the store before the step, T the store now and U the one after the move;
-- fs are the equations that it leaves, bs what it binds, and rs what it reads: those of the variables met that were bound before the step.
pub data Move (S : VarName → Option Tree) : (VarName → Option Tree) → List (Tree × Tree) → (VarName → Option Tree) → List (Tree × Tree) → List (VarName × Tree) → List VarName → Type 0 where
  -- The chains share a variable, and m is the first: the equation is dropped.
  shared : {T : VarName → Option Tree} {l r : Tree} {a b : List VarName} {m : VarName} {es : List (Tree × Tree)}
      → Comes T l a m → Comes T r b m → ((x : VarName) → In x a → ¬ Passes T r x)
      → Move S T ((l, r) ∷ es) T es [] (met S a ++ met S b)
  -- The left chain ends unbound at x, which is bound to the right side as written.
  left : {T : VarName → Option Tree} {l r : Tree} {a : List VarName} {x : VarName} {es : List (Tree × Tree)}
      → Comes T l a x → T x ≡ None → ¬ Reaches T r x
      → Move S T ((l, r) ∷ es) (with_binding T x r) es ((x, r) ∷ []) (met S a)
  -- The left side ends in a value and the right chain unbound at y, which is bound to the left side as written.
  right : {T : VarName → Option Tree} {l r e : Tree} {a b : List VarName} {y : VarName} {es : List (Tree × Tree)}
      → Leads T l a e → IsValue e → Comes T r b y → T y ≡ None → ¬ Reaches T l y
      → Move S T ((l, r) ∷ es) (with_binding T y l) es ((y, l) ∷ []) (met S a ++ met S b)
  -- Both end in values that agree at the top: the equations of their arguments come in front of the rest.
  both : {T : VarName → Option Tree} {l r e f : Tree} {a b : List VarName} {es new : List (Tree × Tree)}
      → Leads T l a e → Leads T r b f → ((x : VarName) → In x a → ¬ In x b) → Meets e f new
      → Move S T ((l, r) ∷ es) T (new ++ es) [] (met S a ++ met S b)

-- Moves one after another: what they bind and read, in order.
pub data Moves (S : VarName → Option Tree) : (VarName → Option Tree) → List (Tree × Tree) → (VarName → Option Tree) → List (Tree × Tree) → List (VarName × Tree) → List VarName → Type 0 where
  stay : {T : VarName → Option Tree} {es : List (Tree × Tree)} → Moves S T es T es [] []
  go : {T U V : VarName → Option Tree} {es fs gs : List (Tree × Tree)} {bs cs : List (VarName × Tree)} {rs qs : List VarName}
      → Move S T es U fs bs rs → Moves S U fs V gs cs qs → Moves S T es V gs (bs ++ cs) (rs ++ qs)

-- The sides end in two values that do not agree at the top, and their chains share nothing.
abbrev pub IsClash : (VarName → Option Tree) → Tree → Tree → Type 0
IsClash T l r =
    (a b : List VarName) × (e f : Tree) × Leads T l a e × Leads T r b f × IsValue e × IsValue f
    × ((x : VarName) → In x a → ¬ In x b) × ((new : List (Tree × Tree)) → ¬ Meets e f new)

-- A variable would be bound to what reaches it.
abbrev pub IsCycle : (VarName → Option Tree) → Tree → Tree → Type 0
IsCycle T l r =
    ((a : List VarName) × (x : VarName) × Comes T l a x × (T x ≡ None) × (¬ Passes T r x) × Reaches T r x)
    ⊎ ((a b : List VarName) × (e : Tree) × (y : VarName) × Leads T l a e × IsValue e × Comes T r b y × (T y ≡ None) × Reaches T l y)

-- A run that leaves no equation, with its bindings and its reads in their order.
abbrev pub Solved : (VarName → Option Tree) → Tree → Tree → List (VarName × Tree) → List VarName → Type 0
Solved S l r bs rs = (T : VarName → Option Tree) × Moves S S ((l, r) ∷ []) T [] bs rs

-- A run after which F holds of the first equation left.
abbrev pub ComesTo : ((VarName → Option Tree) → Tree → Tree → Type 0) → (VarName → Option Tree) → Tree → Tree → Type 0
ComesTo F S l r =
    (T : VarName → Option Tree) × (p q : Tree) × (es : List (Tree × Tree)) × (bs : List (VarName × Tree)) × (rs : List VarName)
    × Moves S S ((l, r) ∷ []) T ((p, q) ∷ es) bs rs × F T p q

-- In the store S, l and r are unified by these bindings, and these variables are read.
abbrev pub Unifies : (VarName → Option Tree) → Tree → Tree → StoreValue → set.FinSet name_cmp → Type 0
Unifies S l r binds reads =
    (bs : List (VarName × Tree)) × (rs : List VarName) × Solved S l r bs rs × (binds ≡ finite.from_entries bs) × (reads ≡ set.from_list rs)

-- In the store S the unification of l and r comes to a clash.
abbrev pub Clashes : (VarName → Option Tree) → Tree → Tree → Type 0
Clashes S l r = ComesTo IsClash S l r

-- In the store S the unification of l and r comes to a cycle.
abbrev pub Cycles : (VarName → Option Tree) → Tree → Tree → Type 0
Cycles S l r = ComesTo IsCycle S l r

-- Why two sides are not unified: a clash, or a cycle.
pub data UnifyFails (S : VarName → Option Tree) (l r : Tree) : Fault → Type 0 where
  clashes : Clashes S l r → UnifyFails S l r Fault.Clash
  cycles : Cycles S l r → UnifyFails S l r Fault.Cycle

-- The end of a unification: solved by bindings and reads, a clash, or a cycle.
pub data Ending : Type 0 where
  solved : StoreValue → set.FinSet name_cmp → Ending
  clash : Ending
  cycle : Ending

-- In the store S the unification of l and r has this end.
abbrev pub HasEnding : (VarName → Option Tree) → Tree → Tree → Ending → Type 0
HasEnding S l r (solved binds reads) = Unifies S l r binds reads
HasEnding S l r clash = Clashes S l r
HasEnding S l r cycle = Cycles S l r
