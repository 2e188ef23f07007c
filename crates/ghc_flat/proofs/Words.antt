-- The words of other crates and of the definitions that the proofs cite, from one place.
pub use Rattle.ghc_flat.specs.Checked.{AllCalls, AreFaultless, AreMadeOf, CheckIsExact, HasClause, IsAcceptedAs, IsClauseFault, IsFault, IsFaultless, IsFirstCallWithout, IsFirstFault, IsFirstTwice, IsFlatGuard, IsFlatWritten, IsLinearWritten, IsMadeOf, IsNamed, IsNotFlat, IsRepeated, MakeTests, QueryFaultsAreTold}
pub use Rattle.ghc_flat.specs.Clause.{Clause, IsClause, Program, Query}
pub use Rattle.ghc_flat.specs.inner.Counting.{AreAmong, CountsTo, IsAmong, MakesAmong, Rises}
pub use Rattle.ghc_flat.specs.Flat.{AreDefined, AreDistinct, IsFlat, IsLinear, IsPredefined, IsProgram, IsQuery, IsWellMade, MakesTests}
pub use Rattle.ghc_flat.specs.inner.Index.{AreSound, IsIndexOf, Knows, numbers_at}
pub use Rattle.ghc_flat.specs.inner.Firsts.{AreTablesOf, IsTableOf, candidates_of, first_in, first_of, has_top, is_same_top, is_unvalued, numbers_of_top}
pub use Rattle.ghc_flat.specs.Numbers.{AreNumbersFor, AreNumbersWith, BeginsOtherwise, is_same_key, keys_of_program, keys_of_written, merged, merged_with, numbers_from}
pub use Rattle.ghc_flat.specs.inner.Refused.{IsRefusedAs, refused_of_query}
pub use Rattle.ghc_flat.specs.Samples.{asked}
pub use Rattle.ghc_flat.specs.Variables.{firsts, fresh_variables, leaf_variables, variables, variables_of_all, variables_of_clause, variables_of_goals, variables_of_list, variables_of_test, variables_of_tests}
pub use Rattle.ghc_flat.specs.declared.firsts.Table.{Table}
pub use Rattle.ghc_flat.specs.declared.index.Index.{Index}
pub use Rattle.ghc_flat.specs.declared.test.Test.{Test}
pub use Rattle.ghc_flat.specs.declared.test.Test.TheVariants.{Compare}
pub use Rattle.ghc_reader.specs.Written.{AreNarrow, AreNumbered, AreWellWritten, IsWellAsked, IsWellWritten, IsWithinLimits, WrittenClause, WrittenQuery, is_stream, variables_of_guard, variables_of_guards, variables_of_written}
pub use Rattle.ghc_reader.specs.declared.written.Guard.{Guard}
pub use Rattle.ghc_reader.specs.declared.written.Guard.TheVariants.{Item}
pub use Rattle.ghc_term.proofs.Decided.{in_decided, name_decided}
pub use Rattle.ghc_term.proofs.Exact.{exact}
pub use Rattle.ghc_term.proofs.ListsLemmas.{at_of_in, compare_splits, in_at, in_either, in_left, in_middle, in_place, in_right, is_nothing, is_something, map_same, next_in, not_both, splits_at}
pub use Rattle.ghc_term.proofs.SetsLemmas.{any_in, in_any}
pub use Rattle.ghc_term.proofs.Trees.{height_front, height_item, height_last}
pub use Rattle.ghc_term.specs.Bindings.{name_cmp}
pub use Rattle.ghc_term.specs.inner.Code.{var_inj}
pub use Rattle.ghc_term.specs.Expression.{Expression, leaf}
pub use Rattle.ghc_term.specs.inner.ExpressionView.{depth_of}
pub use Rattle.ghc_term.specs.Goal.{Goal, assign, call, stream, unify}
pub use Rattle.ghc_term.specs.inner.GoalShown.{shown}
pub use Rattle.ghc_term.specs.Lists.{In}
pub use Rattle.ghc_term.specs.Tree.{IsValue, Tree, integer, node, trees, variable}
pub use Rattle.ghc_term.specs.inner.View.{height, height_of_all}
pub use Rattle.ghc_term.specs.declared.comparison.Comparison.{Comparison}
pub use Rattle.ghc_term.specs.declared.fault.Fault.{Fault}
pub use Rattle.ghc_term.specs.declared.fault.Fault.TheVariants.{Memory, Repeated, Undefined}
pub use Rattle.ghc_term.specs.declared.goal_view.GoalView.{GoalView}
pub use Rattle.ghc_term.specs.declared.goal_view.GoalView.TheVariants.{Assign, Call, Stream, Unify}
pub use Rattle.ghc_term.specs.declared.var_name.VarName.{VarName}
pub use Rattle.std.proofs.Common.{Bool, Err, IfErr, IsTrue, List, MatchResult, None, Ok, Result, Some, [], ap, append-nil, append_assoc, arith, bytes_eq, cond, drop, false, filter, get_or, inl, inr, length, length-append, nat_eq, option_to_list, refl, reverse, slice_get, slice_index, subst, suc, sym, take, true, nat_lt, zero, ℕ, ℤ, Option, option_copied, ◌&&◌, ◌*◌, ◌++◌, ◌+◌, ◌-◌, ◌<◌, ◌||◌, ◌↔◌, ◌∙◌, ◌∷◌, ◌≡◌, ◌≢◌, ◌≤◌, ◌⊎◌}
pub use Rattle.std.proofs.lemmas.Bool.{and_parts, eq-eqb, eqb-true, false_from_ne_true, le-ltb, lt-ltb}
pub use Rattle.std.proofs.lemmas.Bool.Decides.{Decides-int_eq, nat_tests}
pub use Rattle.std.proofs.lemmas.Grind.{common_steps}
pub use Rattle.std.proofs.lemmas.Iterator.Adapters.{YieldsList-from_vec}
pub use Rattle.std.proofs.lemmas.Iterator.Consumers.{YieldsList-so_far, YieldsList-turn}
pub use Rattle.std.proofs.lemmas.List.{length-map, length-take, map_push, take-append-drop, take_more}
pub use Rattle.std.proofs.lemmas.List.Elements.{filter-append}
pub use Rattle.std.proofs.lemmas.List.Kept.{IsStrictlyIncreasing-filter}
pub use Rattle.std.proofs.lemmas.List.Sorted.{IsPermutation-reverse, list_any-IsPermutation}
pub use Rattle.std.proofs.lemmas.Option.{MatchOption-at_some, slice_get-get_or}
pub use Rattle.std.proofs.lemmas.Result.{err_from_is_err_and}
pub use Rattle.std.proofs.lemmas.Slice.Eq.{bytes_eq-Decides}
pub use Rattle.std.specs.Borrow.{Bor}
pub use Rattle.std.specs.List.{list_any}
pub use Rattle.std.specs.List.Sorted.{IsStrictlyIncreasing}
pub use Rattle.std.specs.Map.{lookup}
pub use Rattle.std.specs.Ordering.{eq_by_cmp, int_eq}
