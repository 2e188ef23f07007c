-- What it means that terms, goals, a written clause or a query say what the parse tree says.
use Rattle.std.specs.Prelude.{◌≡◌, ℕ, ◌+◌, List, [], ◌∷◌, Bool, false, not, cond, length, filter, Option, Some, None, MatchOption, slice_get, codes}
use Rattle.ghc_term.specs.declared.var_name.VarName.{VarName}
use Rattle.ghc_term.specs.declared.operator.Operator.{Operator}
use Rattle.ghc_term.specs.declared.operator.Operator.TheVariants as operator
use Rattle.ghc_term.specs.Tree as term
use Rattle.ghc_term.specs.Tree.{node, trees, nil, cons}
use Rattle.ghc_term.specs.Expression.{Expression, leaf, operation}
use Rattle.ghc_term.specs.Goal as goal
use Rattle.ghc_term.specs.Variables.{variables_of_goals, firsts}
use Rattle.ghc_reader.specs.declared.token.Sum.{Sum}
use Rattle.ghc_reader.specs.declared.token.Sum.TheVariants.{Plus, Minus}
use Rattle.ghc_reader.specs.declared.token.Product.{Product}
use Rattle.ghc_reader.specs.declared.token.Product.TheVariants.{Times, Divide, Modulo}
use Rattle.ghc_reader.specs.Source.{Tree, Trees, variable, integer, structure, empty, cell, none, some, Value, number, named, product, sum, Goal, call, unify, assign, Test, plain, compare, Clause}
use Rattle.ghc_reader.specs.Reserved.{is_call, is_stream}
use Rattle.ghc_reader.specs.declared.written.Guard.{Guard}
use Rattle.ghc_reader.specs.declared.written.Guard.TheVariants.{Item as item, Comparison as comparison}
use Rattle.ghc_reader.specs.Written.{WrittenClause, WrittenQuery, variables_of_written, AreNumbered, AreApart}
use Rattle.ghc_reader.specs.Written as written

-- the names of the variables of a clause or a query, by number
abbrev pub Names : Type 0
Names = List (List ℕ)

-- the name `_`, which is a variable of its own at each place
abbrev pub blank : List ℕ
blank = codes "_"

-- The variable x is called v: it is some `_0_i`, and the i-th name is v.
abbrev pub IsCalled : Names → List ℕ → VarName → Type 0
IsCalled names v x = (i : ℕ) × (slice_get names i ≡ Some v) × (x ≡ record { step = 0; place = i + 1 })

-- C v x tells that the variable x is called v.
module _ (C : List ℕ → VarName → Type 0) where
  abbrev mutual
    -- The term u says what the parse tree says, where the variables are called so.
    pub SaysBy : Tree → term.Tree → Type 0
    SaysBy (variable v) u = (x : VarName) × (u ≡ term.variable x) × C v x
    SaysBy (integer n) u = u ≡ term.integer n
    SaysBy (structure f ts) u = (us : List term.Tree) × (u ≡ node f (trees us)) × SaysAllBy ts us
    SaysBy empty u = u ≡ nil
    SaysBy (cell t rest) u = (a : term.Tree) × (b : term.Tree) × (u ≡ cons a b) × SaysBy t a × SaysBy rest b

    -- The terms say in order what the parse trees say.
    pub SaysAllBy : Trees → List term.Tree → Type 0
    SaysAllBy none us = us ≡ []
    SaysAllBy (some t ts) us = (a : term.Tree) × (vs : List term.Tree) × (us ≡ a ∷ vs) × SaysBy t a × SaysAllBy ts vs

-- The term u says what the parse tree says, where the variables have these names.
abbrev pub Says : Names → Tree → term.Tree → Type 0
Says names t u = SaysBy (IsCalled names) t u

-- The terms say in order what the parse trees say.
abbrev pub SaysAll : Names → Trees → List term.Tree → Type 0
SaysAll names ts us = SaysAllBy (IsCalled names) ts us

-- the operator that a mark of products stands for
abbrev pub product_operator : Product → Operator
product_operator Times = operator.Multiply
product_operator Divide = operator.Divide
product_operator Modulo = operator.Modulo

-- the operator that a mark of sums stands for
abbrev pub sum_operator : Sum → Operator
sum_operator Plus = operator.Add
sum_operator Minus = operator.Subtract

module _ (C : List ℕ → VarName → Type 0) where
  -- The expression e says what the parse tree says.
  abbrev pub SaysValueBy : Value → Expression → Type 0
  SaysValueBy (number n) e = e ≡ leaf (term.integer n)
  SaysValueBy (named v) e = (x : VarName) × (e ≡ leaf (term.variable x)) × C v x
  SaysValueBy (product o a b) e = (l : Expression) × (r : Expression) × (e ≡ operation (product_operator o) l r) × SaysValueBy a l × SaysValueBy b r
  SaysValueBy (sum o a b) e = (l : Expression) × (r : Expression) × (e ≡ operation (sum_operator o) l r) × SaysValueBy a l × SaysValueBy b r

  -- The goal w says what the parse tree says.
  abbrev pub SaysGoalBy : Goal → goal.Goal → Type 0
  SaysGoalBy (call c) w = (us : List term.Tree) × (w ≡ goal.call c.name us) × SaysAllBy C c.arguments us
  SaysGoalBy (unify s t) w = (a : term.Tree) × (b : term.Tree) × (w ≡ goal.unify a b) × SaysBy C s a × SaysBy C t b
  SaysGoalBy (assign v e) w = (x : VarName) × (b : Expression) × (w ≡ goal.assign (term.variable x) b) × C v x × SaysValueBy e b

-- The same where the variables have these names.
abbrev pub SaysValue : Names → Value → Expression → Type 0
SaysValue names a e = SaysValueBy (IsCalled names) a e

-- The goal w says what the parse tree says, where the variables have these names.
abbrev pub SaysGoal : Names → Goal → goal.Goal → Type 0
SaysGoal names g w = SaysGoalBy (IsCalled names) g w

-- the variable that a term is
abbrev pub variable_of : Tree → Option (List ℕ)
variable_of (variable v) = Some v
variable_of (integer _) = None
variable_of (structure _ _) = None
variable_of empty = None
variable_of (cell _ _) = None

-- the variable that the first term is
abbrev pub first_variable : Trees → Option (List ℕ)
first_variable none = None
first_variable (some t _) = variable_of t

-- the tail of a goal `instream(X)`
abbrev pub tail_of : Goal → Option (List ℕ)
tail_of (call c) = cond (is_stream c) (first_variable c.arguments) None
tail_of (unify _ _) = None
tail_of (assign _ _) = None

-- The goal w of a query says what the parse tree says: `instream(X)` is a stream with the tail X.
abbrev pub SaysAsked : Names → Goal → goal.Goal → Type 0
SaysAsked names g w = MatchOption (tail_of g) (SaysGoal names g w) (λ v. (k : ℕ) × (x : VarName) × (w ≡ goal.stream k x) × IsCalled names v x)

-- The guard w says what the parse tree says.
abbrev pub SaysGuard : Names → Test → Guard → Type 0
SaysGuard names (plain g) w = (h : goal.Goal) × (w ≡ item h) × SaysGoal names g h
SaysGuard names (compare a o b) w = (l : Expression) × (r : Expression) × (w ≡ comparison o l r) × SaysValue names a l × SaysValue names b r

-- the goal `true`, which does nothing
abbrev pub is_true : Goal → Bool
is_true (call c) = is_call (codes "true") 0 c
is_true (unify _ _) = false
is_true (assign _ _) = false

-- the goals but `true`
abbrev pub doing : List Goal → List Goal
doing gs = filter (λ g. not (is_true g)) gs

-- The lists are as long as each other, and R holds at each place.
abbrev pub Each : {X Y : Type 0} → (X → Y → Type 0) → List X → List Y → Type 0
Each R [] [] = Unit {0}
Each R [] (y ∷ ys) = ⊥
Each R (x ∷ xs) [] = ⊥
Each R (x ∷ xs) (y ∷ ys) = R x y × Each R xs ys

-- The variables xs, as they stand in a text, are numbered by first occurrence, and these are their names by number: but `_`, no name is that of two, and a variable called `_` stands once.
pub record AreNamed (names : Names) (xs : List VarName) : Type 0 where
  pub numbered : AreNumbered xs
  pub named : length names ≡ length (firsts [] xs)
  pub apart : AreApart names
  pub alone : (i j : ℕ) (x : VarName) → slice_get xs i ≡ Some x → slice_get xs j ≡ Some x → IsCalled names blank x → i ≡ j

-- The written clause w says what the parse tree c says.
pub record SaysClause (c : Clause) (w : WrittenClause) : Type 0 where
  pub name : w.name ≡ c.head.name
  pub head : SaysAll w.variables c.head.arguments w.head
  pub guards : Each (SaysGuard w.variables) c.guard w.guards
  pub body : Each (SaysGoal w.variables) (doing c.body) w.body
  pub variables : AreNamed w.variables (variables_of_written w)

-- The k-th stream of the goals is stream k.
abbrev pub AreCounted : List goal.Goal → Type 0
AreCounted gs = (i k : ℕ) (x : VarName) → slice_get (filter written.is_stream gs) i ≡ Some (goal.stream k x) → k ≡ i + 1

-- The written query q says what the parse trees say.
pub record SaysQuery (gs : List Goal) (q : WrittenQuery) : Type 0 where
  pub goals : Each (SaysAsked q.variables) (doing gs) q.goals
  pub streams : AreCounted q.goals
  pub variables : AreNamed q.variables (variables_of_goals q.goals)

abbrev mutual
  -- no variable stands in the parse tree
  pub IsClosed : Tree → Type 0
  IsClosed (variable _) = ⊥
  IsClosed (integer _) = Unit {0}
  IsClosed (structure _ ts) = AreClosed ts
  IsClosed empty = Unit {0}
  IsClosed (cell t rest) = IsClosed t × IsClosed rest

  -- no variable stands in the parse trees
  pub AreClosed : Trees → Type 0
  AreClosed none = Unit {0}
  AreClosed (some t ts) = IsClosed t × AreClosed ts
