-- Small facts on values and on what clauses say, with values worked out by hand.
use Rattle.std.specs.Prelude.{pos, [], ◌∷◌, codes}
use Rattle.std.specs.FinSet as set
use Rattle.ghc_term.specs.declared.operator.Operator.TheVariants.{Add}
use Rattle.ghc_term.specs.Tree.{integer, node, none, more}
use Rattle.ghc_term.specs.Expression.{leaf, operation}
use Rattle.ghc_flat.specs.Samples.{asked, v, store, both_atoms}
use Rattle.ghc_match.specs.Value.{bad, HasValue}
use Rattle.ghc_match.specs.Match.{waits, HasOutcome}

-- `f(Y) + 1` has no value and waits on nothing, though Y is unbound.
abbrev pub StructureIsNoNumber : Type 0
StructureIsNoNumber = HasValue (store []) (operation Add (leaf (node (codes "f") (more (v 2) none))) (leaf (integer (pos 1)))) bad

-- `p(a,b) :- true | true.` waits on both variables of `p(X,Y)`.
abbrev pub WaitsOnTwo : Type 0
WaitsOnTwo = HasOutcome both_atoms (v 1 ∷ v 2 ∷ []) (store []) (waits (set.from_list (asked 1 ∷ asked 2 ∷ [])))
