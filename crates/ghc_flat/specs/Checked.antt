-- What the checker answers on a written program and a query: the program that they are accepted as, or their first fault.
use Rattle.std.specs.Prelude.{◌≡◌, ◌↔◌, ◌⊎◌, ℕ, ◌+◌, List, [], ◌∷◌, ◌++◌, length, Some, slice_get, Result}
use Rattle.ghc_term.specs.declared.var_name.VarName.{VarName}
use Rattle.ghc_term.specs.declared.fault.Fault.{Fault}
use Rattle.ghc_term.specs.declared.fault.Fault.TheVariants.{NotFlat, Repeated, Undefined}
use Rattle.ghc_term.specs.Answered.{Answered, IsExact}
use Rattle.ghc_term.specs.Tree.{Tree}
use Rattle.ghc_term.specs.Goal.{Goal, call}
use Rattle.ghc_term.specs.Lists.{In}
use Rattle.ghc_reader.specs.declared.written.Guard.{Guard}
use Rattle.ghc_reader.specs.Written.{WrittenClause, AreWellWritten}
use Rattle.ghc_flat.specs.declared.test.Test.{Test}
use Rattle.ghc_flat.specs.Clause.{Clause, Program, Query}
use Rattle.ghc_flat.specs.Flat.{MakesTests, AreDistinct, IsProgram, IsQuery}
use Rattle.ghc_flat.specs.Variables.{variables_of_list, variables_of_test}

-- The guards make these tests, in order.
abbrev pub MakeTests : List Guard → List Test → Type 0
MakeTests [] ts = ts ≡ []
MakeTests (g ∷ gs) ts = (us : List Test) × (vs : List Test) × MakesTests g us × MakeTests gs vs × (ts ≡ us ++ vs)

-- The clause is the written one, with the tests that its guards make.
pub record IsMadeOf (w : WrittenClause) (c : Clause) : Type 0 where
  pub name : c.name ≡ w.name
  pub head : c.head ≡ w.head
  pub tests : MakeTests w.guards c.tests
  pub body : c.body ≡ w.body

-- The clauses of the program are the written ones, in order.
abbrev pub AreMadeOf : List WrittenClause → Program → Type 0
AreMadeOf [] [] = Unit {0}
AreMadeOf [] (c ∷ P) = ⊥
AreMadeOf (w ∷ ws) [] = ⊥
AreMadeOf (w ∷ ws) (c ∷ P) = IsMadeOf w c × AreMadeOf ws P

-- The written clauses and the query are accepted, as this program.
pub record IsAcceptedAs (ws : List WrittenClause) (gs : Query) (P : Program) : Type 0 where
  pub made : AreMadeOf ws P
  pub program : IsProgram P
  pub query : IsQuery P gs

-- x is the variable of the list whose second place comes first: in front of it no variable stands twice, and x stands there.
pub record IsFirstTwice (xs : List VarName) (x : VarName) : Type 0 where
  pub front : List VarName
  pub back : List VarName
  pub splits : xs ≡ front ++ x ∷ back
  pub distinct : AreDistinct front
  pub before : In x front

-- The name of the variable x in the clause is v.
abbrev pub IsNamed : WrittenClause → VarName → List ℕ → Type 0
IsNamed w x v = (i : ℕ) × (x ≡ record { step = 0; place = i + 1 }) × (slice_get w.variables i ≡ Some v)

-- The variable of this name is the one whose second place in the head of the clause comes first.
abbrev pub IsRepeated : WrittenClause → List ℕ → Type 0
IsRepeated w v = (x : VarName) × IsFirstTwice (variables_of_list w.head) x × IsNamed w x v

-- No variable stands twice in the head of the clause.
abbrev pub IsLinearWritten : WrittenClause → Type 0
IsLinearWritten w = AreDistinct (variables_of_list w.head)

-- The guard is flat after a head of these variables: it makes tests, and each variable of the tests is one of them.
abbrev pub IsFlatGuard : List VarName → Guard → Type 0
IsFlatGuard xs g = (ts : List Test) × MakesTests g ts × ((t : Test) (x : VarName) → In t ts → In x (variables_of_test t) → In x xs)

-- Each guard of the clause is flat.
abbrev pub IsFlatWritten : WrittenClause → Type 0
IsFlatWritten w = (g : Guard) → In g w.guards → IsFlatGuard (variables_of_list w.head) g

-- A guard of the clause is not flat.
abbrev pub IsNotFlat : WrittenClause → Type 0
IsNotFlat w = (g : Guard) × In g w.guards × (¬ IsFlatGuard (variables_of_list w.head) g)

-- One of the clauses is of this name and arity.
abbrev pub HasClause : List WrittenClause → List ℕ → ℕ → Type 0
HasClause ws f n = (w : WrittenClause) × In w ws × (w.name ≡ f) × (length w.head ≡ n)

-- Of the name and arity of each call among the goals D holds.
abbrev pub AllCalls : (List ℕ → ℕ → Type 0) → List Goal → Type 0
AllCalls D gs = (f : List ℕ) (ts : List Tree) → In (call f ts) gs → D f (length ts)

-- The first call among the goals, from the left, of whose name and arity D does not hold is one of the name f and arity n.
pub record IsFirstCallWithout (D : List ℕ → ℕ → Type 0) (gs : List Goal) (f : List ℕ) (n : ℕ) : Type 0 where
  pub front : List Goal
  pub arguments : List Tree
  pub back : List Goal
  pub splits : gs ≡ front ++ call f arguments ∷ back
  pub arity : n ≡ length arguments
  pub before : AllCalls D front
  pub without : ¬ D f n

-- The first call among the goals that has no clause is one of the name f and arity n.
abbrev pub IsUndefined : List WrittenClause → List Goal → List ℕ → ℕ → Type 0
IsUndefined ws gs f n = IsFirstCallWithout (HasClause ws) gs f n

-- Nothing is wrong with the clause, where D says which calls are defined.
pub record IsFaultless (D : List ℕ → ℕ → Type 0) (w : WrittenClause) : Type 0 where
  pub linear : IsLinearWritten w
  pub flat : IsFlatWritten w
  pub defined : AllCalls D w.body

-- The fault of clause k: a variable that stands twice in its head; else a guard that is not flat; else the first undefined call of its body.
abbrev pub IsClauseFault : (List ℕ → ℕ → Type 0) → ℕ → WrittenClause → Fault → Type 0
IsClauseFault D k w e =
    ((v : List ℕ) × IsRepeated w v × (e ≡ Repeated k v))
    ⊎ (IsLinearWritten w × IsNotFlat w × (e ≡ NotFlat k))
    ⊎ (IsLinearWritten w × IsFlatWritten w × ((f : List ℕ) × (n : ℕ) × IsFirstCallWithout D w.body f n × (e ≡ Undefined f n)))

-- Nothing is wrong with any of the clauses.
abbrev pub AreFaultless : (List ℕ → ℕ → Type 0) → List WrittenClause → Type 0
AreFaultless D ws = (w : WrittenClause) → In w ws → IsFaultless D w

-- The fault of the first clause with which something is wrong. The clauses are numbered from 1.
pub record IsFirstFault (D : List ℕ → ℕ → Type 0) (ws : List WrittenClause) (e : Fault) : Type 0 where
  pub front : List WrittenClause
  pub clause : WrittenClause
  pub back : List WrittenClause
  pub splits : ws ≡ front ++ clause ∷ back
  pub before : AreFaultless D front
  pub fault : IsClauseFault D (length front + 1) clause e

-- The fault of the written program.
abbrev pub IsProgramFault : List WrittenClause → Fault → Type 0
IsProgramFault ws e = IsFirstFault (HasClause ws) ws e

-- The fault of the query: its first undefined call.
abbrev pub IsQueryFault : List WrittenClause → Query → Fault → Type 0
IsQueryFault ws gs e = (f : List ℕ) × (n : ℕ) × IsUndefined ws gs f n × (e ≡ Undefined f n)

-- The fault of a written program and a query: the program's; else the query's.
abbrev pub IsFault : List WrittenClause → Query → Fault → Type 0
IsFault ws gs e = IsProgramFault ws e ⊎ (AreFaultless (HasClause ws) ws × IsQueryFault ws gs e)

-- What is answered for a written program and a query is exact: the program that they are accepted as, or their fault, unless memory was refused.
abbrev pub CheckIsExact : Type 0
CheckIsExact =
    (ws : List WrittenClause) (gs : Query) (result : Result Program Fault)
    → Answered (IsAcceptedAs ws gs) (IsFault ws gs) result → IsExact (IsAcceptedAs ws gs) (IsFault ws gs) result

-- The fault of a well written program and a query is the query's just where the same program is accepted with the query `true`, which has no goals.
abbrev pub QueryFaultsAreTold : Type 0
QueryFaultsAreTold =
    (ws : List WrittenClause) (gs : Query) (e : Fault) → AreWellWritten ws → IsFault ws gs e
    → (AreFaultless (HasClause ws) ws × IsQueryFault ws gs e) ↔ ((P : Program) × IsAcceptedAs ws [] P)
