-- The tree of an input term is closed.
use Rattle.ghc_reader.proofs.Words.{◌≡◌, subst, Term, variable, integer, call, list, Arguments, without, within, Rest, closed, whole, partial, Terms, one, more, Input, tree_of, arguments_of, trees_of, cells_of, IsClosed, AreClosed}
use Rattle.ghc_reader.specs.Grammar as grammar
use Rattle.ghc_reader.specs.Source as tree
use Rattle.ghc_reader.specs.Derived.{list_of}

mutual
  pub closed_tree : (t : Term) → grammar.IsClosed t → IsClosed (tree_of t)
  closed_tree (variable v) c = absurd c
  closed_tree (integer n) c = tt
  closed_tree (call f a) c = closed_arguments a c
  closed_tree (list r) c = closed_list r c

  closed_arguments : (a : Arguments) → grammar.AreClosedArguments a → AreClosed (arguments_of a)
  closed_arguments without c = tt
  closed_arguments (within a) c = closed_trees a c

  closed_list : (r : Rest) → grammar.IsClosedRest r → IsClosed (list_of r)
  closed_list closed c = tt
  closed_list (whole a) c = closed_cells a tree.empty c tt
  closed_list (partial a t) c = closed_cells a (tree_of t) c.0 (closed_tree t c.1)

  closed_trees : (a : Terms) → grammar.AreClosed a → AreClosed (trees_of a)
  closed_trees (one t) c = (closed_tree t c, tt)
  closed_trees (more t a) c = (closed_tree t c.0, closed_trees a c.1)

  closed_cells : (a : Terms) (end : tree.Tree) → grammar.AreClosed a → IsClosed end → IsClosed (cells_of a end)
  closed_cells (one t) end c e = (closed_tree t c, e)
  closed_cells (more t a) end c e = (closed_tree t c.0, closed_cells a end c.1 e)

-- what `lower_closed` requires of a term that `parse_term` gave
pub input_is_closed : (i : Input) (t : tree.Tree) → tree_of i.term ≡ t → IsClosed t
input_is_closed i t e = subst IsClosed e (closed_tree i.term i.closed)
