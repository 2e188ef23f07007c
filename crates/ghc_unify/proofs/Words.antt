-- The words of other crates and of the definitions that the proofs cite, from one place.
pub use Rattle.ghc_term.proofs.Alike.{names_apart, names_same}
pub use Rattle.ghc_term.proofs.Bind.{binding_acyclic}
pub use Rattle.ghc_term.proofs.Chains.{leads_agree, leads_once, reaches_more, reaches_on}
pub use Rattle.ghc_term.proofs.Decided.{Decided, decided_both, decided_by, decided_either, in_decided, name_decided, nat_decided, true_decided}
pub use Rattle.ghc_term.proofs.Entries.{same_is as names_tie}
pub use Rattle.ghc_term.proofs.Exact.{exact}
pub use Rattle.ghc_term.proofs.ListsLemmas.{Each, contains_in, each_as, each_both, in_left, in_right, in_splits}
pub use Rattle.ghc_term.proofs.Merged.{by_answers, insert_is, merged, merged_acyclic, merged_is, none_more, unbound_below}
pub use Rattle.ghc_term.proofs.Names.{itself, name_antisymmetric, name_total}
pub use Rattle.ghc_term.proofs.Searches.{In_append, In_append_right, In_either}
pub use Rattle.ghc_term.proofs.Searching.{size_positive}
pub use Rattle.ghc_term.proofs.SetsLemmas.{in_set, set_in}
pub use Rattle.ghc_term.proofs.Total.{apart, chain, fewer, none_bound, removed_acyclic, removed_apart, removed_less, same_name}
pub use Rattle.ghc_term.proofs.Trees.{OccursIn_push}
pub use Rattle.ghc_term.proofs.Weights.{size, size_all, size_end}
pub use Rattle.ghc_term.specs.Answered.{Answered}
pub use Rattle.ghc_term.specs.Bindings.{Comes, IsAcyclic, Leads, Passes, Reaches, along, at_free, at_integer, at_node, here, name_cmp, now, on, through, with_binding}
pub use Rattle.ghc_term.specs.Lists.{In}
pub use Rattle.ghc_term.specs.inner.Shown.{HasArgument, shown}
pub use Rattle.ghc_term.specs.Store.{StoreValue, value_at}
pub use Rattle.ghc_term.specs.Tree.{IsClosed, IsValue, Occurs, OccursIn, Tree, Trees, integer, more, node, none, trees, variable}
pub use Rattle.ghc_term.specs.declared.fault.Fault.{Fault}
pub use Rattle.ghc_term.specs.declared.fault.Fault.TheVariants.{Clash, Cycle, Memory}
pub use Rattle.ghc_term.specs.declared.var_name.VarName.{VarName}
pub use Rattle.ghc_term.specs.declared.view.TermView.{TermView}
pub use Rattle.ghc_term.specs.declared.view.TermView.TheVariants.{Atom, Int, Struct, Var}
pub use Rattle.ghc_unify.specs.Laws.{EachUnificationHasAnEnding, IsCutDown, SolutionsAreKept, UnificationBindsAndReads, UnificationHasOneEnding, UnificationIsLocal, UnificationKeepsAcyclic, UnificationLooksAtItsTerms, UnificationsCommute, UnifyIsExact}
pub use Rattle.ghc_unify.specs.inner.Parting.{Parts}
pub use Rattle.ghc_unify.specs.Solutions.{Equates, Solves, replace, replace_all}
pub use Rattle.ghc_unify.specs.inner.Steps.{FailsFrom}
pub use Rattle.ghc_unify.specs.Unify.{Clashes, ComesTo, Cycles, Ending, HasEnding, IsClash, IsCycle, Meets, Move, Moves, Pairs, Solved, Unifies, UnifyFails, both, clash, clashes, cycle, cycles, go, integers, left, met, no_more, nodes, one_more, right, shared, solved, stay, with_bindings}
pub use Rattle.std.proofs.Common.{Bool, Err, IfErr, IfOk, IsErrAnd, IsTrue, List, None, Ok, Option, Result, Some, [], ap, append-nil, append_assoc, arith, cond, drop, drop-cons, false, get_or, inl, inr, is_some, length, nat_eq, not, option_copied, refl, reverse, rules, subst, suc, sym, take, take_all, true, zero, ℕ, ℤ, ◌++◌, ◌+◌, ◌-◌, ◌<◌, ◌&&◌, ◌||◌, ◌∙◌, ◌∷◌, ◌≡◌, ◌≢◌, ◌≤◌, ◌⊎◌}
pub use Rattle.std.proofs.Math.IntN.{ℤ_discrete}
pub use Rattle.std.proofs.lemmas.Int.{to_z-of_z}
pub use Rattle.std.proofs.lemmas.List.{append_cancel_right, drop_all, reverse-append, take_more}
pub use Rattle.std.proofs.lemmas.List.Elements.{filter-append}
pub use Rattle.std.proofs.lemmas.List.Folds.{list_any-append}
pub use Rattle.std.proofs.lemmas.Map.Views.{Contains-from_any}
pub use Rattle.std.proofs.lemmas.Slice.Eq.{bytes_eq-Decides}
pub use Rattle.std.specs.Borrow.{Bor}
pub use Rattle.std.specs.List.{list_any}
pub use Rattle.std.specs.Option.{option_or}
pub use Rattle.std.specs.Ordering.{eq_by_cmp}
pub use Rattle.std.specs.Str.{bytes_eq}
