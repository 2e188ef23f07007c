-- Two tests, or two clauses, with one code are one.
use Rattle.std.specs.Prelude.{◌≡◌, ◌⊎◌, ℕ, List, refl}
use Rattle.std.proofs.Common.{inl, inr}
use Rattle.std.specs.Coded.{Coded, code_by, coded×, coded⊎, coded_list, coded_ℕ}
use Rattle.ghc_term.specs.declared.comparison.Comparison.{Comparison}
use Rattle.ghc_term.specs.declared.var_name.VarName.{VarName}
use Rattle.ghc_term.specs.Tree.{Tree}
use Rattle.ghc_term.specs.inner.Code.{tree_code, name_code}
use Rattle.ghc_term.specs.Expression.{Expression}
use Rattle.ghc_term.specs.Goal.{Goal}
use Rattle.ghc_term.specs.inner.GoalCode.{comparison_code, expression_code, goal_code}
use Rattle.ghc_flat.specs.declared.test.Test.{Test}
use Rattle.ghc_flat.specs.declared.test.Test.TheVariants.{Wait as wait, IsInteger as is_integer, IsAtom as is_atom, IsList as is_list, Compare as compare}
use Rattle.ghc_flat.specs.Clause.{Clause, Program}

-- what a test is made of: the variable of one of the four, or a comparison and its sides
abbrev pub TestParts : Type 0
TestParts = VarName ⊎ (VarName ⊎ (VarName ⊎ (VarName ⊎ (Comparison × (Expression × Expression)))))

-- the parts of a guard test, with the kind of the test
abbrev pub test_parts : Test → TestParts
test_parts (wait x) = inl x
test_parts (is_integer x) = inr (inl x)
test_parts (is_atom x) = inr (inr (inl x))
test_parts (is_list x) = inr (inr (inr (inl x)))
test_parts (compare o a b) = inr (inr (inr (inr (o, (a, b)))))

-- the guard test that has these parts
abbrev pub test_from : TestParts → Test
test_from (inl x) = wait x
test_from (inr (inl x)) = is_integer x
test_from (inr (inr (inl x))) = is_atom x
test_from (inr (inr (inr (inl x)))) = is_list x
test_from (inr (inr (inr (inr p)))) = compare p.0 p.1.0 p.1.1

-- What a guard test is coded as is read back as that test.
pub test_back : (g : Test) → test_from (test_parts g) ≡ g
test_back (wait x) = refl
test_back (is_integer x) = refl
test_back (is_atom x) = refl
test_back (is_list x) = refl
test_back (compare o a b) = refl

-- the code of a guard test, which no other test has
abbrev pub test_code : Coded Test
test_code =
    code_by TestParts
    (coded⊎ name_code (coded⊎ name_code (coded⊎ name_code (coded⊎ name_code (coded× comparison_code (coded× expression_code expression_code))))))
    test_parts test_from test_back

-- the code of a clause with its name, head, guard and body, which no other clause has
abbrev pub clause_code : Coded Clause
clause_code =
    code_by (List ℕ × (List Tree × (List Test × List Goal)))
    (coded× (coded_list coded_ℕ) (coded× (coded_list tree_code) (coded× (coded_list test_code) (coded_list goal_code))))
    (λ c. (c.name, (c.head, (c.tests, c.body))))
    (λ p. record { name = p.0; head = p.1.0; tests = p.1.1.0; body = p.1.1.1 })
    (λ _. refl)

-- the code of a program, its clauses in order, which no other program has
abbrev pub program_code : Coded Program
program_code = coded_list clause_code
