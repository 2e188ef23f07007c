-- The words of other crates and of the definitions that the proofs cite, from one place.
pub use Rattle.ghc_fire.proofs.Answering.{apart, same_fault}
pub use Rattle.ghc_fire.proofs.Calling.{numbered_for, some_there, take_number}
pub use Rattle.ghc_fire.proofs.EachAnswer.{each_answer, no_cycle}
pub use Rattle.ghc_fire.proofs.EachEffect.{clause_decided, made_equal, united}
pub use Rattle.ghc_fire.proofs.Gathered.{gains_one}
pub use Rattle.ghc_fire.proofs.GoalNames.{goal_antisymmetric, goal_total, same_goal, same_is}
pub use Rattle.ghc_fire.proofs.Steps.{clause_once}
pub use Rattle.ghc_fire.proofs.Tries.{attempt_once, attempt_there}
pub use Rattle.ghc_fire.specs.Attempt.{Answer, AssignmentAnswers, Attempts, CallAnswers, SomeAccepts, SomeWaitsFor, UnificationAnswers, proposes, refused}
pub use Rattle.ghc_fire.specs.Effect.{Effect, no_step}
pub use Rattle.ghc_fire.specs.Goals.{Goals, goal_cmp}
pub use Rattle.ghc_fire.specs.declared.act.Act.{Act}
pub use Rattle.ghc_fire.specs.declared.act.Act.TheVariants.{Assigned, Unified}
pub use Rattle.ghc_flat.specs.Clause.{Clause, IsClause, IsFor, Program}
pub use Rattle.ghc_flat.specs.Flat.{IsProgram, is_stream}
pub use Rattle.ghc_flat.specs.Numbers.{AreNumbersFor}
pub use Rattle.ghc_flat.specs.Variables.{leaf_variables}
pub use Rattle.ghc_hooks.specs.Face.{ClauseSays, Face, GoalNames, IsFace, IsHookedOn, StandsAs, pair_cmp}
pub use Rattle.ghc_hooks.specs.inner.FaceCode.{HookPairs, OutcomesByClause, StatusesByGoal}
pub use Rattle.ghc_hooks.specs.inner.FewGoals.{goals_held}
pub use Rattle.ghc_hooks.specs.inner.Found.{outcomes_found}
pub use Rattle.ghc_hooks.specs.inner.Kinds.{kind_of}
pub use Rattle.ghc_hooks.specs.Laws.{EachGoalHasAStatus, ExactNotesAwaitWhatIsLookedAt, ExactNotesStayExact, FaceIsOne, GoalsWaitForWhatTheyLookAt, LookedIsOfWhatIsLookedAt, SettledNotesShowTheFace, StatusIsOfWhatIsLookedAt, StatusIsOne}
pub use Rattle.ghc_hooks.specs.inner.Looks.{FitEachOther, GoalsByVariable, HasOneLess, HasOneMore, goals_in, goals_under, looks}
pub use Rattle.ghc_hooks.specs.NotedFace.{IsNotedAs, IsNotedFace, IsStreamGoal}
pub use Rattle.ghc_hooks.specs.Notes.{AgreeOnLooked, AreExact, IsExact, IsNotedOn, Note, NotesByGoal}
pub use Rattle.ghc_hooks.specs.inner.Parts.{HaveBesides, HaveOnly, HooksBesides, IsOfKind, SaysToCall, TellsHooks, TellsOutcomes, TellsPool, TellsStatuses, WaitsBy}
pub use Rattle.ghc_hooks.specs.Reached.{OneReaches, StandOnce, TakesUp, TakesUpAll, leaves, values_of}
pub use Rattle.ghc_hooks.specs.Status.{Awaits, HasStatus, IsNoWait, Status, failed, is_failed, is_ready, is_stream_goal, is_waiting, ready, streaming, waiting}
pub use Rattle.ghc_hooks.specs.Tries.{AreSpared, AreWoken, HasLookedAt, Tries}
pub use Rattle.ghc_hooks.specs.inner.Unblocked.{AreUnblocked, IsAmong, IsSorted, IsUnblocked, SortsIn, SortsOut}
pub use Rattle.ghc_hooks.specs.Verdict.{awaits, status_of}
pub use Rattle.ghc_hooks.specs.declared.face.status.Kind.{Kind}
pub use Rattle.ghc_hooks.specs.declared.face.status.Kind.TheVariants.{Failed, Ready, Stream, Waiting}
pub use Rattle.ghc_hooks.specs.declared.heard.Heard.{Heard}
pub use Rattle.ghc_hooks.specs.declared.unblocked.Unblocked.{Unblocked}
pub use Rattle.ghc_match.proofs.Chains.{leads_back, leads_there}
pub use Rattle.ghc_match.proofs.EachOutcome.{each_outcome}
pub use Rattle.ghc_match.proofs.EachValue.{each_value}
pub use Rattle.ghc_match.proofs.GainsLemmas.{OneHas, gains_more, has_more}
pub use Rattle.ghc_match.proofs.LooksAt.{looks_back, looks_there}
pub use Rattle.ghc_match.proofs.Outcomes.{accepts_refuses, accepts_waits, outcomes_exclude, refuses_waits, waits_there}
pub use Rattle.ghc_match.proofs.PushLeaves.{parts}
pub use Rattle.ghc_match.proofs.SetsOf.{SetOf, below_set, no_set, restated_set}
pub use Rattle.ghc_match.proofs.Values.{ends_once, leaf_reaches, number_waits_not, passes_reaches}
pub use Rattle.ghc_match.specs.Looked.{ExpressionReaches, GoalLooksAt}
pub use Rattle.ghc_match.specs.Match.{Accepts, HasOutcome, LooksAt, Outcome, Refuses, WaitsFor, accepts, refuses}
pub use Rattle.ghc_match.specs.inner.Meeting.{Gains}
pub use Rattle.ghc_match.specs.Position.{EndsIn}
pub use Rattle.ghc_match.specs.inner.Told.{outcome_of, told, value_of}
pub use Rattle.ghc_match.specs.Value.{HasValue, Value, Wants, bad, number, waits}
pub use Rattle.ghc_match.specs.declared.trying.Tried.{Tried}
pub use Rattle.ghc_term.proofs.Decided.{some_decided, true_decided}
pub use Rattle.ghc_term.proofs.Entries.{same, tie}
pub use Rattle.ghc_term.proofs.Gathered.{in_variables}
pub use Rattle.ghc_term.proofs.GoalNames.{both}
pub use Rattle.ghc_term.proofs.GoalMaps.{count_of_names, in_names, no_names, put_name, taken_name}
pub use Rattle.ghc_term.proofs.Indexed.{inserted, removed, value_is}
pub use Rattle.ghc_term.proofs.ListsLemmas.{contains_in, in_at, in_contains, in_either, in_get, in_last, in_left, in_more, in_right, in_splits, not_both}
pub use Rattle.ghc_term.proofs.Names.{itself, name_antisymmetric, name_total, same_name}
pub use Rattle.ghc_term.proofs.Placing.{one_value}
pub use Rattle.ghc_term.proofs.Searching.{argument_reaches, falls_away, list_is_value, nothing_open, occurs_among, popped, sees_falls, size_positive, sizes, stands_last, stands_left, stands_right, unfold_falls, value_in_list}
pub use Rattle.ghc_term.proofs.SetsLemmas.{agree, has_member, holds_nothing, is_member, member, no_member, one_inserted, one_set, same_held, set_of}
pub use Rattle.ghc_term.proofs.VariableMaps.{none_in}
pub use Rattle.ghc_term.proofs.Weights.{size, size_all, size_variable}
pub use Rattle.ghc_term.specs.inner.Walking.{StandsIn}
pub use Rattle.ghc_term.specs.Bindings.{Comes, IsAcyclic, Leads, Passes, Reaches, along, at_free, at_integer, at_node, here, name_cmp, now, on, through}
pub use Rattle.ghc_term.specs.Expression.{Expression, leaf, operation}
pub use Rattle.ghc_term.specs.Goal.{Goal, assign, call, stream, unify}
pub use Rattle.ghc_term.specs.GoalMap.{names_of}
pub use Rattle.ghc_term.specs.Lists.{In}
pub use Rattle.ghc_term.specs.inner.Seen.{value_list}
pub use Rattle.ghc_term.specs.Sets.{IsSetOf, Variables}
pub use Rattle.ghc_term.specs.Store.{StoreValue, value_at}
pub use Rattle.ghc_term.specs.Table.{Table}
pub use Rattle.ghc_term.specs.Tree.{IsClosed, Occurs, OccursIn, Tree, Trees, integer, more, node, none, trees, variable}
pub use Rattle.ghc_term.specs.Variables.{variables, variables_of_all}
pub use Rattle.ghc_term.specs.declared.fault.Fault.{Fault}
pub use Rattle.ghc_term.specs.declared.fault.Fault.TheVariants.{Arithmetic, NoMatch, Waits}
pub use Rattle.ghc_term.specs.declared.goal_name.GoalName.{GoalName}
pub use Rattle.ghc_term.specs.declared.var_name.VarName.{VarName}
pub use Rattle.ghc_unify.specs.Unify.{Unifies, UnifyFails, clashes, cycles}
pub use Rattle.std.proofs.Common.{Bool, Err, IfNone, IfOk, IfSome, IsSome, IsTrue, List, MatchOption, None, Ok, Option, Result, Some, [], ap, append-nil, append_assoc, arith, cond, drop, false, get_or, inl, inr, is_some, length, map, nat_eq, not, option_copied, refl, reverse, rules, slice_get, slice_index_or, subst, subst₂, suc, sym, take, take_all, true, zero, ℕ, ℤ, ◌&&◌, ◌++◌, ◌+◌, ◌-◌, ◌<◌, ◌||◌, ◌↔◌, ◌∙◌, ◌∷◌, ◌≡◌, ◌≢◌, ◌≤◌, ◌⊎◌}
pub use Rattle.std.proofs.lemmas.Bool.{or_cases, or_right}
pub use Rattle.std.proofs.lemmas.Bool.Decides.{nat_tests}
pub use Rattle.std.proofs.lemmas.Cmp.{on_total, then_total}
pub use Rattle.std.proofs.lemmas.Int.{to_z-of_z}
pub use Rattle.std.proofs.lemmas.List.{take-append-drop, take_more}
pub use Rattle.std.proofs.lemmas.List.Sums.{sum_by-append, sum_by-cons}
pub use Rattle.std.proofs.lemmas.Map.Views.{Contains-from_any, list_any-from_Contains, tells_apart}
pub use Rattle.std.proofs.lemmas.Option.{MatchOption-at_some, slice_get_within}
pub use Rattle.std.proofs.lemmas.Result.{IfOk-weaker, on_err_weaker, on_ok_weaker}
pub use Rattle.std.specs.Borrow.{Bor}
pub use Rattle.std.specs.Cmp.{IsTotalOrder, eq_by_cmp_equiv, nat_cmp_total, tied_then}
pub use Rattle.std.specs.FinMap.{IsAntisymmetric, nat_cmp-IsAntisymmetric}
pub use Rattle.std.specs.List.{AllByRecursion, list_any, sum_by}
pub use Rattle.std.specs.Map.{lookup}
pub use Rattle.std.specs.Option.{option_map}
pub use Rattle.std.specs.Ordering.{eq_by_cmp, is_eq, nat_cmp, ordering_then}
pub use Rattle.std.specs.declared.cmp.Ordering.{Ordering}
pub use Rattle.std.specs.declared.cmp.Ordering.TheVariants.{Equal, Greater, Less}
