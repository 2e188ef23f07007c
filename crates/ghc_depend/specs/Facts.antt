-- Facts of dependence and of orders, in two runs.
use Rattle.std.specs.Prelude.{ℕ, pos, List, [], ◌∷◌, Some, true, codes}
use Rattle.std.specs.FinMap as finite
use Rattle.std.specs.FinSet as set
use Rattle.ghc_term.specs.Tree.{Tree, variable, integer, atom, nil, cons}
use Rattle.ghc_term.specs.Goal.{call, unify}
use Rattle.ghc_fire.specs.declared.act.Act.TheVariants.{ByClause as by_clause, Unified as unified}
use Rattle.ghc_records.specs.Record.{Record}
use Rattle.ghc_depend.specs.Depend.{DependsOn, AreConsequences, IsFirstConsequence}
use Rattle.ghc_depend.specs.declared.cause.Cause.TheVariants.{Made as made, Read as read}
use Rattle.ghc_depend.specs.Cause.{HasCause}
use Rattle.ghc_depend.specs.Lawful.{IsLawful, IsUnlawful}

-- the variable `_n_i`
abbrev v : ℕ → ℕ → Tree
v n i = variable (record { step = n; place = i })

-- The run of `append([1],[2],R)`: 1 0.1 by 2, 2 1.1 eq, 3 1.2 by 1, 4 3.1 eq.
abbrev pub step_1 : Record
step_1 = record {
  number = 1;
  goal = Some (record { step = 0; place = 1 });
  consumed = Some (call (codes "append") (cons (integer (pos 1)) nil ∷ cons (integer (pos 2)) nil ∷ v 0 1 ∷ []));
  act = by_clause 2;
  effect = record {
    reads = set.empty;
    binds = finite.empty;
    makes = unify (v 0 1) (cons (integer (pos 1)) (v 1 1)) ∷ call (codes "append") (nil ∷ cons (integer (pos 2)) nil ∷ v 1 1 ∷ []) ∷ [];
    fresh = 1;
  };
}

-- its second step, 2 1.1 eq
abbrev pub step_2 : Record
step_2 = record {
  number = 2;
  goal = Some (record { step = 1; place = 1 });
  consumed = Some (unify (v 0 1) (cons (integer (pos 1)) (v 1 1)));
  act = unified;
  effect = record { reads = set.empty; binds = finite.insert finite.empty (record { step = 0; place = 1 }) (cons (integer (pos 1)) (v 1 1)); makes = []; fresh = 0 };
}

-- its third step, 3 1.2 by 1
abbrev pub step_3 : Record
step_3 = record {
  number = 3;
  goal = Some (record { step = 1; place = 2 });
  consumed = Some (call (codes "append") (nil ∷ cons (integer (pos 2)) nil ∷ v 1 1 ∷ []));
  act = by_clause 1;
  effect = record { reads = set.empty; binds = finite.empty; makes = unify (v 1 1) (cons (integer (pos 2)) nil) ∷ []; fresh = 0 };
}

-- its fourth step, 4 3.1 eq
abbrev pub step_4 : Record
step_4 = record {
  number = 4;
  goal = Some (record { step = 3; place = 1 });
  consumed = Some (unify (v 1 1) (cons (integer (pos 2)) nil));
  act = unified;
  effect = record { reads = set.empty; binds = finite.insert finite.empty (record { step = 1; place = 1 }) (cons (integer (pos 2)) nil); makes = []; fresh = 0 };
}

-- the whole run
abbrev pub run : List Record
run = step_1 ∷ step_2 ∷ step_3 ∷ step_4 ∷ []

-- In the run of append, steps 2 and 3 depend on step 1, which made their goals, and step 4 on step 3; all others are consequences of step 1, the first is step 2, and step 2 has none.
pub record AppendDepends : Type 0 where
  pub second : HasCause run step_2 step_1 made
  pub third : HasCause run step_3 step_1 made
  pub fourth : HasCause run step_4 step_3 made
  pub of_first : AreConsequences run step_1 (step_2 ∷ step_3 ∷ step_4 ∷ [])
  pub of_second : AreConsequences run step_2 []
  pub of_third : AreConsequences run step_3 (step_4 ∷ [])
  pub first_of_first : IsFirstConsequence run step_1 step_2

-- Of the orders of that run, 1 3 4 2 is lawful; 2 1 3 4 is not, for step 2 stands before step 1; 1 2 3 is not, for step 4 is missing; 1 1 2 3 is not, for step 1 stands twice.
pub record AppendOrders : Type 0 where
  pub lawful : IsLawful run (1 ∷ 3 ∷ 4 ∷ 2 ∷ [])
  pub early : IsUnlawful run (2 ∷ 1 ∷ 3 ∷ 4 ∷ []) 1 2
  pub missing : IsUnlawful run (1 ∷ 2 ∷ 3 ∷ []) 4 0
  pub twice : IsUnlawful run (1 ∷ 1 ∷ 2 ∷ 3 ∷ []) 1 1

-- Two clauses `p(a,_)` and `p(_,b)`, and the query `p(X,Y), X = c, Y = b`: 1 0.2 eq, 2 0.3 eq, 3 0.1 by 2 reads Y.
abbrev pub first_wake : Record
first_wake = record {
  number = 1;
  goal = Some (record { step = 0; place = 2 });
  consumed = Some (unify (v 0 1) (atom (codes "c")));
  act = unified;
  effect = record { reads = set.empty; binds = finite.insert finite.empty (record { step = 0; place = 1 }) (atom (codes "c")); makes = []; fresh = 0 };
}

-- its second step
abbrev pub second_wake : Record
second_wake = record {
  number = 2;
  goal = Some (record { step = 0; place = 3 });
  consumed = Some (unify (v 0 2) (atom (codes "b")));
  act = unified;
  effect = record { reads = set.empty; binds = finite.insert finite.empty (record { step = 0; place = 2 }) (atom (codes "b")); makes = []; fresh = 0 };
}

-- its third step, of the goal that the second woke
abbrev pub third_wake : Record
third_wake = record {
  number = 3;
  goal = Some (record { step = 0; place = 1 });
  consumed = Some (call (codes "p") (v 0 1 ∷ v 0 2 ∷ []));
  act = by_clause 2;
  effect = record { reads = set.insert set.empty (record { step = 0; place = 2 }); binds = finite.empty; makes = []; fresh = 0 };
}

-- the whole run
abbrev pub wake : List Record
wake = first_wake ∷ second_wake ∷ third_wake ∷ []

-- There step 3 depends on step 2, which bound Y and woke its goal, and not on step 1, although step 1 bound X.
pub record WakingDepends : Type 0 where
  pub woken : HasCause wake third_wake second_wake (read (record { step = 0; place = 2 }) true)
  pub apart : ¬ DependsOn wake third_wake first_wake
