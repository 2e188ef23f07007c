-- The words of other crates and of the definitions that the proofs cite, from one place.
pub use Rattle.ghc_flat.proofs.Counts.{all_list}
pub use Rattle.ghc_flat.proofs.DistinctLemmas.{distinct_apart, distinct_left, distinct_right}
pub use Rattle.ghc_flat.specs.Clause.{Clause}
pub use Rattle.ghc_flat.specs.Numbers.{AreOther, BeginsOtherwise}
pub use Rattle.ghc_flat.specs.Flat.{AreDistinct, IsLinear}
pub use Rattle.ghc_flat.specs.Samples.{asked, both_atoms, store, v}
pub use Rattle.ghc_flat.specs.Variables.{leaf_variables, variables, variables_of_all, variables_of_list, variables_of_test}
pub use Rattle.ghc_flat.specs.declared.test.Test.{Test}
pub use Rattle.ghc_flat.specs.declared.test.Test.TheVariants.{Compare, IsInteger, Wait}
pub use Rattle.ghc_match.specs.inner.Ends.{ChainEnds, EndsAt, StandsAndEnds, TellsEnd}
pub use Rattle.ghc_match.specs.Facts.{StructureIsNoNumber, WaitsOnTwo}
pub use Rattle.ghc_match.specs.inner.First.{FirstEnds}
pub use Rattle.ghc_match.specs.inner.Guarding.{GuardLooksAt, IsSaid, OneSaysNo, OneWants, PassedFrom, StandsAndPasses}
pub use Rattle.ghc_match.specs.Laws.{EachClauseHasAnOutcome, EachExpressionHasAValue, OutcomeIsOfWhatIsLookedAt, OutcomesExclude, RefusesAtOnePlace, RefusesSomewhere, ValueLooksAtItsTerms, ValuesExclude}
pub use Rattle.ghc_match.specs.Looked.{ExpressionReaches}
pub use Rattle.ghc_match.specs.Match.{Accepts, AreAlike, Compares, GuardSaysNo, GuardWants, HasOutcome, HeadFits, HeadHas, HeadWants, Holds, HoldsBy, IsAtom, IsList, LooksAt, Mismatch, Outcome, Refuses, SaysNo, StandsAt, StandsFor, TestWants, WaitsFor, accepts, refuses, waits}
pub use Rattle.ghc_match.specs.inner.Meeting.{Asks, Clashes, Gains, HeadLooksAt, Opens, Passed, arguments, standing}
pub use Rattle.ghc_match.specs.inner.Places.{ahead_in, ahead_of, all_ahead}
pub use Rattle.ghc_match.specs.inner.Refusing.{ClashesWithin, IsNoAt, TellsFirstNo}
pub use Rattle.ghc_match.specs.Position.{At, EndsIn, down, here, unbound}
pub use Rattle.ghc_match.specs.Refusal.{HasValuesBy, IsFirst, MismatchIn, RefusesAt, TestHasValues, TestSaysNo}
pub use Rattle.ghc_match.specs.inner.Small.{ComparesOf, ComputesOf, IsAsked, spelled}
pub use Rattle.ghc_match.specs.inner.Stands.{HasNoneBefore, laid_over, with_one}
pub use Rattle.ghc_match.specs.inner.Tasks.{IsWorth, Makes, steps, steps_of}
pub use Rattle.ghc_match.specs.Value.{Computes, HasValue, Number, Wants, bad, computed, number, of_integer, of_variable}
pub use Rattle.ghc_match.specs.declared.guard.Says.{Says}
pub use Rattle.ghc_match.specs.declared.guard.Says.TheVariants.{No, Waits, Yes}
pub use Rattle.ghc_match.specs.declared.head.Met.{Met}
pub use Rattle.ghc_match.specs.declared.number.Task.{Task}
pub use Rattle.ghc_match.specs.declared.number.Task.TheVariants.{Apply, Find}
pub use Rattle.ghc_match.specs.declared.places.Places.{Places}
pub use Rattle.ghc_match.specs.declared.refusal.RefusalPlace.{RefusalPlace}
pub use Rattle.ghc_match.specs.declared.refusal.RefusalPlace.TheVariants.{Argument, Test as by_test, Value as by_value}
pub use Rattle.ghc_match.specs.declared.scope.End.{End}
pub use Rattle.ghc_match.specs.declared.scope.End.TheVariants.{Nowhere, Unbound, Value}
pub use Rattle.ghc_match.specs.declared.scope.Scope.{Scope}
pub use Rattle.ghc_match.specs.declared.scope.Scope.TheVariants.{Goal, Head}
pub use Rattle.ghc_match.specs.declared.small.Asked.TheVariants.{Worth}
pub use Rattle.ghc_term.proofs.Chains.{leads_agree, leads_once}
pub use Rattle.ghc_term.proofs.Decided.{Decided, name_decided, nat_decided, same_decided, some_decided}
pub use Rattle.ghc_term.proofs.ListsLemmas.{Each, at_of_in, each_as, each_both, each_in, in_at, in_either, in_last, in_left, in_map, in_more, in_place, in_right, not_both}
pub use Rattle.ghc_term.proofs.MapsLemmas.{one_map, place_of}
pub use Rattle.ghc_term.proofs.Names.{apart, itself, name_antisymmetric, name_total, same_name}
pub use Rattle.ghc_term.proofs.SetsLemmas.{holds_nothing, member, no_member, one_inserted, one_set, set_by, set_of}
pub use Rattle.ghc_term.proofs.Total.{chain, walk, walk_step}
pub use Rattle.ghc_term.proofs.Walks.{at_value}
pub use Rattle.ghc_term.specs.Bindings.{Comes, IsAcyclic, Leads, Passes, Reaches, along, at_free, at_integer, at_node, name_cmp, now, on, through}
pub use Rattle.ghc_term.specs.inner.Code.{var_inj}
pub use Rattle.ghc_term.specs.Expression.{Expression, leaf, operation}
pub use Rattle.ghc_term.specs.Lists.{In}
pub use Rattle.ghc_term.specs.Sets.{IsSetOf, Variables}
pub use Rattle.ghc_term.specs.inner.Shown.{HasArgument, shown}
pub use Rattle.ghc_term.specs.Store.{StoreValue, value_at}
pub use Rattle.ghc_term.specs.Tree.{IsValue, Tree, Trees, atom, integer, list_of, more, node, none, trees, variable}
pub use Rattle.ghc_term.specs.declared.comparison.Comparison.{Comparison}
pub use Rattle.ghc_term.specs.declared.comparison.Comparison.TheVariants.{AtLeast, AtMost, Equal, Greater, Less, NotEqual}
pub use Rattle.ghc_term.specs.declared.operator.Operator.{Operator}
pub use Rattle.ghc_term.specs.declared.operator.Operator.TheVariants.{Add, Divide, Modulo, Multiply, Subtract}
pub use Rattle.ghc_term.specs.declared.var_name.VarName.{VarName}
pub use Rattle.ghc_term.specs.declared.view.TermView.{TermView}
pub use Rattle.ghc_term.specs.declared.view.TermView.TheVariants.{Atom, Int, Struct, Var}
pub use Rattle.std.proofs.Common.{Bool, FitsSigned, IfOk, IsTrue, List, MatchOption, None, Option, Some, [], ap, append-nil, append_assoc, arith, codes, cond, drop, false, get_or, inl, inr, int_div, int_rem, length, map, nat_eq, not, option_copied, pos, refl, reverse, rules, slice_get, slice_index_or, slice_set, subst, suc, sym, take, true, zero, ℕ, ℤ, ◌*ℤ◌, ◌++◌, ◌+ℤ◌, ◌+◌, ◌-ℤ◌, ◌-◌, ◌<◌, ◌↔◌, ◌∙◌, ◌∷◌, ◌≡◌, ◌≢◌, ◌≤◌, ◌⊎◌}
pub use Rattle.std.proofs.Math.Decide.{ℕ_discrete}
pub use Rattle.std.proofs.Math.IntN.{ℤ_discrete}
pub use Rattle.std.proofs.lemmas.Bool.{cases_order, eq-eqb, eqb-true, or_cases, or_left, or_right}
pub use Rattle.std.proofs.lemmas.Grind.{common_steps}
pub use Rattle.std.proofs.lemmas.Int.{SFits-int_wrap, by_lt_z, int_wrap_fits, to_z-of_z}
pub use Rattle.std.proofs.lemmas.List.{reverse-append, take_all, take_more}
pub use Rattle.std.proofs.lemmas.Option.{slice_get-get_or, slice_get_within}
pub use Rattle.std.proofs.lemmas.Slice.Eq.{bytes_eq-Decides}
pub use Rattle.std.specs.Borrow.{Bor}
pub use Rattle.std.specs.Coded.{coded_list, coded_ℕ, coded_ℤ}
pub use Rattle.std.specs.Int.{int_wrap, w64}
pub use Rattle.std.specs.Int.Signed.{clash_ℤ}
pub use Rattle.std.specs.List.{zip}
pub use Rattle.std.specs.Ordering.{eq_by_cmp}
pub use Rattle.std.specs.Str.{bytes_eq}
