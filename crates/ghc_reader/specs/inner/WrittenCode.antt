-- Two guards, two written clauses, or two written queries, with one code are one.
use Rattle.std.specs.Prelude.{◌≡◌, ◌⊎◌, ℕ, List, refl}
use Rattle.std.proofs.Common.{inl, inr}
use Rattle.std.specs.Coded.{Coded, code_by, coded×, coded⊎, coded_list, coded_ℕ}
use Rattle.ghc_term.specs.declared.comparison.Comparison.{Comparison}
use Rattle.ghc_term.specs.Tree.{Tree}
use Rattle.ghc_term.specs.inner.Code.{tree_code}
use Rattle.ghc_term.specs.Expression.{Expression}
use Rattle.ghc_term.specs.Goal.{Goal}
use Rattle.ghc_term.specs.inner.GoalCode.{comparison_code, expression_code, goal_code}
use Rattle.ghc_reader.specs.declared.written.Guard.{Guard}
use Rattle.ghc_reader.specs.declared.written.Guard.TheVariants.{Item as item, Comparison as comparison}
use Rattle.ghc_reader.specs.Written.{WrittenClause, WrittenQuery}

-- what a guard is made of: a goal, or a comparison and its sides
abbrev pub GuardParts : Type 0
GuardParts = Goal ⊎ (Comparison × (Expression × Expression))

-- the goal that a guard is, or its comparison and both sides
abbrev pub guard_parts : Guard → GuardParts
guard_parts (item g) = inl g
guard_parts (comparison o a b) = inr (o, (a, b))

-- the guard that is made of these parts
abbrev pub guard_from : GuardParts → Guard
guard_from (inl g) = item g
guard_from (inr p) = comparison p.0 p.1.0 p.1.1

-- Each guard is the one that is made of its own parts.
pub guard_back : (g : Guard) → guard_from (guard_parts g) ≡ g
guard_back (item g) = refl
guard_back (comparison o a b) = refl

-- the code of a guard, which no two different guards share
abbrev pub guard_code : Coded Guard
guard_code = code_by GuardParts (coded⊎ goal_code (coded× comparison_code (coded× expression_code expression_code))) guard_parts guard_from guard_back

-- the code of a list of names, which no two different lists share
abbrev pub name_list_code : Coded (List (List ℕ))
name_list_code = coded_list (coded_list coded_ℕ)

-- the code of a clause as it is written, which no two different clauses share
abbrev pub clause_code : Coded WrittenClause
clause_code =
    code_by (List ℕ × (List Tree × (List Guard × (List Goal × List (List ℕ)))))
    (coded× (coded_list coded_ℕ) (coded× (coded_list tree_code) (coded× (coded_list guard_code) (coded× (coded_list goal_code) name_list_code))))
    (λ c. (c.name, (c.head, (c.guards, (c.body, c.variables)))))
    (λ p. record { name = p.0; head = p.1.0; guards = p.1.1.0; body = p.1.1.1.0; variables = p.1.1.1.1 })
    (λ _. refl)

-- the code of a program as it is written, which no two different programs share
abbrev pub source_code : Coded (List WrittenClause)
source_code = coded_list clause_code

-- the code of a query as it is written, which no two different queries share
abbrev pub query_code : Coded WrittenQuery
query_code =
    code_by (List Goal × List (List ℕ)) (coded× (coded_list goal_code) name_list_code) (λ q. (q.goals, q.variables))
    (λ p. record { goals = p.0; variables = p.1 }) (λ _. refl)
