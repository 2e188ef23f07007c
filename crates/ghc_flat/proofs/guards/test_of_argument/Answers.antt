use Rattle.ghc_flat.proofs.guards.test_of_argument.Goals as goal

pub returns-in-Var : goal.returns-in-Var
returns-in-Var c = rw (← c.in-Var.ensures.shown) c.test_of_variable.ensures
