-- Steps replay under each program that has the clauses by which they went.
use Rattle.ghc_depend.proofs.Words.{◌≡◌, List, [], ◌∷◌, refl, inl, inr, Some, None, Option, VarName, Tree, Goal, In, value_at, Program, State, Record, after, HasStepEffect, Runs, query_state, Act, ByClause as by_clause, Unified as unified, Assigned as assigned, Given as given, Closed as closed, Asked as asked, HasEffect}
use Rattle.ghc_term.specs.Goal.{call, unify, assign, stream}
use Rattle.ghc_depend.specs.Slices.{HasClausesOf, ReplayIsOfItsClauses}

module _ (P Q : Program) (whole : List Record) (has : HasClausesOf P Q whole) where
  module _ (r : Record) (i : In r whole) (S : VarName → Option Tree) where
    on_goal : (b : Goal) (a : Act) → r.act ≡ a → HasEffect P b a r.number S r.effect → HasEffect Q b a r.number S r.effect
    on_goal (call f ts) (by_clause k) e (c, theta, is, fits, outcome, binds, makes, fresh) = (c, theta, has.used r k c i e is, fits, outcome, binds, makes, fresh)
    on_goal (call f ts) unified e h = h
    on_goal (call f ts) assigned e h = h
    on_goal (call f ts) (given u) e h = h
    on_goal (call f ts) closed e h = h
    on_goal (call f ts) (asked gs) e h = h
    on_goal (unify l m) (by_clause k) e h = h
    on_goal (unify l m) unified e h = h
    on_goal (unify l m) assigned e h = h
    on_goal (unify l m) (given u) e h = h
    on_goal (unify l m) closed e h = h
    on_goal (unify l m) (asked gs) e h = h
    on_goal (assign t x) (by_clause k) e h = h
    on_goal (assign t x) unified e h = h
    on_goal (assign t x) assigned e h = h
    on_goal (assign t x) (given u) e h = h
    on_goal (assign t x) closed e h = h
    on_goal (assign t x) (asked gs) e h = h
    on_goal (stream k x) (by_clause j) e h = h
    on_goal (stream k x) unified e h = h
    on_goal (stream k x) assigned e h = h
    on_goal (stream k x) (given u) e h = h
    on_goal (stream k x) closed e h = h
    on_goal (stream k x) (asked gs) e h = h

    effect_there : (o : Option Goal) (a : Act) → r.act ≡ a → HasStepEffect P o a r.number S r.effect → HasStepEffect Q o a r.number S r.effect
    effect_there None (by_clause k) e h = h
    effect_there None unified e h = h
    effect_there None assigned e h = h
    effect_there None (given u) e h = h
    effect_there None closed e h = h
    effect_there None (asked gs) e h = record { askable = h.askable; defined = has.defined r gs i e h.defined; reads = h.reads; binds = h.binds; makes = h.makes; own = h.own }
    effect_there (Some b) a e h = on_goal b a e h

  runs : (rs : List Record) → ((r : Record) → In r rs → In r whole) → (s t : State) → Runs P s rs t → Runs Q s rs t
  runs [] among s t h = h
  runs (r ∷ rs) among s t h = ((h.0.0, effect_there r (among r (inl refl)) (value_at s.store) r.consumed r.act refl h.0.1), runs rs (λ c j. among c (inr j)) (after s r) t h.1)

pub of_clauses : ReplayIsOfItsClauses
of_clauses P Q query rs t has h = (h.0, runs P Q rs has rs (λ r i. i) (query_state query) t h.1, h.2)
