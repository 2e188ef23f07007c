-- The words of other crates and of the definitions that the proofs cite, from one place.
pub use Rattle.ghc_core.proofs.Arriving.{comes_last}
pub use Rattle.ghc_core.proofs.Moving.{opening_stays}
pub use Rattle.ghc_core.proofs.Reaching.{reached_good}
pub use Rattle.ghc_core.proofs.Returning.{going_leaves}
pub use Rattle.ghc_core.specs.Change.{CanChange, Changes, IsBoundBy}
pub use Rattle.ghc_core.specs.Core.{IsStanding}
pub use Rattle.ghc_core.specs.Gone.{all_gone}
pub use Rattle.ghc_core.specs.World.{IsReplay, World}
pub use Rattle.ghc_core.specs.declared.changes.Change.{Change}
pub use Rattle.ghc_core.specs.declared.changes.Change.TheVariants.{Comes, Goes, Reorders}
pub use Rattle.ghc_depend.proofs.Ahead.{all_behind, behind_ranked, in_inserted}
pub use Rattle.ghc_depend.proofs.Causes.{at_split}
pub use Rattle.ghc_depend.proofs.Finding.{makes_at, own, own_made, same_value}
pub use Rattle.ghc_depend.proofs.Picking.{leave_last, pick_last, picks_has, picks_in, picks_order}
pub use Rattle.ghc_depend.proofs.Placing.{apart_at, place_of}
pub use Rattle.ghc_depend.proofs.Results.{is_old, taken}
pub use Rattle.ghc_depend.specs.Cause.{HasCause, IsDirect, by_making, by_naming, by_reading}
pub use Rattle.ghc_depend.specs.Deletion.{IsBoundIn, IsConsumedIn, IsWithoutSteps}
pub use Rattle.ghc_depend.specs.Depend.{Binds, DependsOn, Descends, IsKeptAs, itself, made_by}
pub use Rattle.ghc_depend.specs.declared.cause.Cause.{Cause}
pub use Rattle.ghc_fire.proofs.GoalNames.{goal_antisymmetric, goal_total, same, same_goal, same_is, same_parts}
pub use Rattle.ghc_fire.proofs.Ordered.{entries_are, value_is}
pub use Rattle.ghc_fire.specs.Asked.{variables_asked}
pub use Rattle.ghc_fire.specs.Attempt.{Answer, AssignmentAnswers, Attempts, CallAnswers, UnificationAnswers, proposes, refused}
pub use Rattle.ghc_fire.specs.Effect.{no_step}
pub use Rattle.ghc_fire.specs.Goals.{Goals, goal_cmp}
pub use Rattle.ghc_fire.specs.inner.GoalsCode.{goal_name_code}
pub use Rattle.ghc_flat.specs.Clause.{Program, Query}
pub use Rattle.ghc_flat.specs.Flat.{is_stream}
pub use Rattle.ghc_flat.specs.Numbers.{is_same_key}
pub use Rattle.ghc_hooks.proofs.LookedAt.{exact_awaits}
pub use Rattle.ghc_hooks.proofs.Looking.{goal_itself}
pub use Rattle.ghc_hooks.proofs.LookingAll.{earlier, latest, so_far}
pub use Rattle.ghc_hooks.proofs.Statuses.{status_once}
pub use Rattle.ghc_hooks.proofs.Tables.{count_of_keys, has_key, key_put, key_taken}
pub use Rattle.ghc_hooks.specs.Face.{IsHookedOn, StandsAs}
pub use Rattle.ghc_hooks.specs.inner.FaultCode.{fault_at, fault_back, told_by}
pub use Rattle.ghc_hooks.specs.Notes.{AreExact, AreLeft, IsUntried, Note, NotesByGoal}
pub use Rattle.ghc_hooks.specs.Status.{HasStatus, Status, failed, is_failed, is_ready, is_stream_goal, is_waiting, ready, streaming, waiting}
pub use Rattle.ghc_hooks.specs.Tries.{HasLookedAt}
pub use Rattle.ghc_hooks.specs.Verdict.{awaits, status_of}
pub use Rattle.ghc_records.proofs.Effects.{kept_goal, mapped}
pub use Rattle.ghc_records.proofs.OrderLemmas.{Before, is_before, number_in, record_once}
pub use Rattle.ghc_records.proofs.SlotClosing.{once_of}
pub use Rattle.ghc_records.proofs.SlotLemmas.{stands_held}
pub use Rattle.ghc_records.proofs.SlotRanks.{map_of, of_map, rank, rank_back, rank_stands, some_of}
pub use Rattle.ghc_records.proofs.States.{bound_at}
pub use Rattle.ghc_records.specs.Journal.{Opening}
pub use Rattle.ghc_records.specs.Orders.{AreDistinct, Picks, Precedes, leave, nothing}
pub use Rattle.ghc_records.specs.Record.{Record, State, after, numbers, without_goal}
pub use Rattle.ghc_records.specs.Replay.{MakesGoal, Replays, Runs, query_state}
pub use Rattle.ghc_records.specs.inner.Slots.{HasNumberIn, SlotList, StandsIn, held_in}
pub use Rattle.ghc_records.specs.StepText.{goal_name_text}
pub use Rattle.ghc_records.specs.UseIndex.{StepBinds}
pub use Rattle.ghc_records.specs.Uses.{Consumes, Uses}
pub use Rattle.ghc_term.proofs.Decided.{Decided, same_decided, some_decided, true_decided}
pub use Rattle.ghc_term.proofs.Entries.{tie}
pub use Rattle.ghc_term.proofs.Indexed.{done}
pub use Rattle.ghc_term.proofs.ListsLemmas.{contains_in, each_next, in_at, in_contains, in_either, in_get, in_last, in_left, in_map, in_more, in_right, not_both}
pub use Rattle.ghc_term.proofs.Names.{name_total}
pub use Rattle.ghc_term.proofs.SetsLemmas.{any_in, has_member, holds_nothing, in_any, is_member, one_inserted, same_held}
pub use Rattle.ghc_term.specs.Bindings.{IsAcyclic, name_cmp}
pub use Rattle.ghc_term.specs.Expression.{Expression}
pub use Rattle.ghc_term.specs.Fault.{fault_number}
pub use Rattle.ghc_term.specs.Goal.{Goal, assign, call, stream, unify}
pub use Rattle.ghc_term.specs.GoalText.{IsGoalTextOf}
pub use Rattle.ghc_term.specs.Lists.{In}
pub use Rattle.ghc_term.specs.Sets.{Variables}
pub use Rattle.ghc_term.specs.Store.{StoreValue, value_at}
pub use Rattle.ghc_term.specs.Tree.{Tree}
pub use Rattle.ghc_term.specs.declared.fault.Fault.{Fault}
pub use Rattle.ghc_term.specs.declared.goal_name.GoalName.{GoalName}
pub use Rattle.ghc_term.specs.declared.var_name.VarName.{VarName}
pub use Rattle.ghc_trace.specs.Binders.{Bound, bound, free, no_more}
pub use Rattle.ghc_trace.specs.Disturbed.{AreAsNoted, AreDisturbed, AreResumedBy, AreStuckOtherwise, Disturbed, IsOneOf, IsStuckOtherwise, LooksWhere, WaitsWhereBound, status_by, stuck_by, stuck_of}
pub use Rattle.ghc_trace.specs.inner.Gathering.{Gathers, noted}
pub use Rattle.ghc_trace.specs.GoalLaws.{LinesAreOfGoals, NotesTellGoals}
pub use Rattle.ghc_trace.specs.GoalLines.{AreLinesByNotes, HasTooLong, IsTooLong, Named, StandsByNote, TellsGoal, as_noted, as_stream, goal_line, print_limit}
pub use Rattle.ghc_trace.specs.inner.GoalLinesCode.{AddsLine, AddsLines, IsKnown, TellsShort, lent}
pub use Rattle.ghc_trace.specs.Laws.{Brings, IsSettled, NotesTellNews, NotesTellPorts}
pub use Rattle.ghc_trace.specs.News.{IsStuck, Standing, Stands, news_line, status_text}
pub use Rattle.ghc_trace.specs.inner.NewsCode.{Former, IsNewsBy, resumed_text, standings, standings_text}
pub use Rattle.ghc_trace.specs.inner.PortCode.{port_of}
pub use Rattle.ghc_trace.specs.PortText.{port_text, ports_text}
pub use Rattle.ghc_trace.specs.Ports.{calls, resumed}
pub use Rattle.ghc_trace.specs.Spies.{IsSpied, Spies, as_written, in_order, predicate, predicate_cmp, spied_of, spies_in_order}
pub use Rattle.ghc_trace.specs.Who.{binder_of}
pub use Rattle.ghc_trace.specs.Why.{AreReasonsTold, reason_of}
pub use Rattle.ghc_trace.specs.declared.reasons.Reason.{Reason}
pub use Rattle.ghc_trace.specs.declared.spies.Predicate.{Predicate}
pub use Rattle.ghc_trace.specs.declared.stuck.Stuck.{Stuck}
pub use Rattle.ghc_trace.specs.declared.stuck.Stuck.TheVariants.{Failed, Waiting}
pub use Rattle.ghc_trace.specs.declared.who_bound.Binder.{Binder}
pub use Rattle.std.proofs.Common.{All, Bool, Err, IfOk, IsTrue, List, None, Ok, OnOk, Option, Result, Some, T, [], ap, append-nil, append_assoc, arith, codes, cond, drop, drop_of_length-le, false, get_or, inl, inr, is_ok, is_some, length, map, nat_eq, not, option_copied, refl, rules, slice_get, string_bytes, subst, suc, sym, take, true, zero, ℕ, ◌&&◌, ◌++◌, ◌+◌, ◌-◌, ◌<◌, ◌||◌, ◌↔◌, ◌∙◌, ◌∷◌, ◌≡◌, ◌≢◌, ◌≤◌, ◌⊎◌}
pub use Rattle.std.proofs.lemmas.Bool.{cases_eq, eq-eqb, ne_eqb}
pub use Rattle.std.proofs.lemmas.Bool.Decides.{nat_tests}
pub use Rattle.std.proofs.lemmas.Cmp.{on_total, then_total}
pub use Rattle.std.proofs.lemmas.Fn.{always_returns_same, dedup_same}
pub use Rattle.std.proofs.lemmas.Grind.{common_steps}
pub use Rattle.std.proofs.lemmas.List.{at_drop_more, drop_all, drop_more, map-append, take_all, take_more}
pub use Rattle.std.proofs.lemmas.List.Elements.{All-contains, All-get_or, All-head, All-nil, All-same, All-tail}
pub use Rattle.std.proofs.lemmas.List.Folds.{concat-append}
pub use Rattle.std.proofs.lemmas.List.Kept.{Any-dedup, Contains-from_dedup, IsStrictlySortedBy-dedup}
pub use Rattle.std.proofs.lemmas.List.Sorted.{Contains-permutation, IsPermutation-sym}
pub use Rattle.std.proofs.lemmas.Map.Keys.{IsDistinct-from_sorted, sorted_from_all_adjacent}
pub use Rattle.std.proofs.lemmas.Map.Views.{All-from_any, All-insert_key, Contains-from_any, Contains-from_lookup, lookup-from_Contains}
pub use Rattle.std.proofs.lemmas.Option.{slice_get_within}
pub use Rattle.std.specs.BTreeSet.{insert_key}
pub use Rattle.std.specs.Borrow.{Bor}
pub use Rattle.std.specs.Cmp.{Equal-is, IsEquivalence, IsTotalOrder, eq_by_cmp_equiv, nat_cmp_total, tied_then}
pub use Rattle.std.specs.Cmp.Lexicographic.{nat_list_cmp_total, slice_cmp, texts_ties}
pub use Rattle.std.specs.Coded.{coded_option}
pub use Rattle.std.specs.FinMap.{IsAntisymmetric, nat_cmp-IsAntisymmetric, slice_cmp-IsAntisymmetric}
pub use Rattle.std.specs.FinMap.Entries.{below_all, is_some-find, is_sorted}
pub use Rattle.std.specs.Io.{StartsWith}
pub use Rattle.std.specs.List.{AllAdjacentBelow, AllByRecursion, AllZip, Contains, concat, dedup, list_any}
pub use Rattle.std.specs.List.Sorted.{IsPermutation, IsSorted, IsStrictlySortedBy}
pub use Rattle.std.specs.Map.{keys_of}
pub use Rattle.std.specs.Option.{option_or}
pub use Rattle.std.specs.Ordering.{eq_by_cmp, is_eq, is_lt, nat_cmp, ordering_then}
pub use Rattle.std.specs.declared.cmp.Ordering.{Ordering}
pub use Rattle.std.specs.declared.cmp.Ordering.TheVariants.{Equal, Greater, Less}
