-- The words of other crates and of the definitions that the proofs cite, from one place.
pub use Rattle.ghc_depend.specs.Cause.{CanWait, IsBoundBehind, IsDirect, IsLeastNamed, IsLeastRead, IsWokenBy, ReadsBehind, WasThereBefore, by_making, by_naming, by_reading}
pub use Rattle.ghc_depend.specs.Deletion.{IsBoundIn, IsClosedUnder, IsConsumedIn, IsMadeIn, IsPartedBy, IsWithoutSteps}
pub use Rattle.ghc_depend.specs.Depend.{AreConsequencesOf, Binds, Consumes, DependsOn, Follows, GoesWith, IsFirstConsequence, IsKeptAs, MakesGoal, MakesVariable, NamesFrom, ReadsFrom, Uses, directly, further}
pub use Rattle.ghc_depend.specs.Facts.{AppendDepends, AppendOrders, WakingDepends, first_wake, run, second_wake, step_1, step_2, step_3, step_4, third_wake, wake}
pub use Rattle.ghc_depend.specs.Kept.{IsSplitAt, IsWithout, Keeps, taken_numbers, with_shelved}
pub use Rattle.ghc_depend.specs.Lawful.{AreInTime, IsFirstMissing, IsFirstNeeded, IsFirstTooEarly, IsFirstWrong, IsInOrder, IsInTime, IsLawful, IsNoFurther, IsOfKept, IsOrderOf, IsTooEarly, IsUnlawful, StandsBehind, missing, too_early, wrong}
pub use Rattle.ghc_depend.specs.Laws.{ConsequencesHaveOneAnswer, GoneComeBack, KeepsIsOne, LawOfDeletion, LawfulOrderKeepsReplay, NeighboursChangePlaces, OrdersAreDecided, OrdersHaveOneAnswer, RollKeepsReplay, UndoKeepsReplay, WithoutStepsIsOne}
pub use Rattle.ghc_depend.specs.inner.Places.{HasPlacesOf, IsFirstAmong, IsFirstUser, IsFirstWhere, IsOfSteps, IsPlaceOfUser, IsSoFar}
pub use Rattle.ghc_depend.specs.declared.cause.Cause.TheVariants.{Made, Named, Read}
pub use Rattle.ghc_fire.proofs.Asking.{asks_once}
pub use Rattle.ghc_fire.proofs.GoalNames.{goal_total, same_goal, same_parts, goal_antisymmetric}
pub use Rattle.ghc_fire.proofs.Steps.{effect_binds, effect_local, effect_once, number_ends}
pub use Rattle.ghc_fire.specs.Asked.{Asks, variables_asked}
pub use Rattle.ghc_fire.specs.Effect.{Effect, HasEffect, IsOnChainsOf, ReadsTail}
pub use Rattle.ghc_fire.specs.Goals.{Goals, goal_cmp}
pub use Rattle.ghc_fire.specs.declared.act.Act.{Act}
pub use Rattle.ghc_fire.specs.declared.act.Act.TheVariants.{Asked, Assigned, ByClause, Closed, Given, Unified}
pub use Rattle.ghc_flat.specs.Clause.{Program, Query}
pub use Rattle.ghc_flat.specs.Flat.{IsProgram, IsQuery}
pub use Rattle.ghc_flat.specs.Variables.{leaf_variables}
pub use Rattle.ghc_match.proofs.Outcomes.{outcome_there}
pub use Rattle.ghc_match.proofs.Values.{number_there}
pub use Rattle.ghc_match.specs.Match.{accepts}
pub use Rattle.ghc_match.specs.Position.{EndsIn}
pub use Rattle.ghc_match.specs.Value.{Number, computed, of_integer, of_variable}
pub use Rattle.ghc_records.proofs.NumberSets.{any_number, number_any}
pub use Rattle.ghc_records.proofs.OrderLemmas.{Before, Rises, before_in, before_is, before_once, is_before, number_in, number_of, numbers_append, picks_once, precedes_once, precedes_rises, record_once, records_distinct}
pub use Rattle.ghc_records.proofs.PickLemmas.{leave_last, pick_last, picks_has, picks_in}
pub use Rattle.ghc_records.proofs.Replaying.{of_query, replay_well, run_once}
pub use Rattle.ghc_records.proofs.SlotClosing.{once_of}
pub use Rattle.ghc_records.proofs.SlotFronts.{front_gap, front_in, front_more, front_stands}
pub use Rattle.ghc_records.proofs.SlotLemmas.{held_stands, stands_held}
pub use Rattle.ghc_records.proofs.SlotPlaces.{one_record}
pub use Rattle.ghc_records.proofs.SlotRanks.{less_rank, map_of, of_map, rank, rank_back, rank_least, rank_less, rank_stands, ranked, ranked_at, some_of}
pub use Rattle.ghc_records.proofs.States.{bound_at, made_or_old}
pub use Rattle.ghc_records.specs.Journal.{Entry, Opening, redid, reordered, rolled, step_of, took, undid}
pub use Rattle.ghc_records.specs.Orders.{AreDistinct, Picks, Precedes, leave, nothing}
pub use Rattle.ghc_records.specs.Record.{Fires, HasStepEffect, IsThere, Record, Shelf, State, after, numbers, with_makes, without_goal}
pub use Rattle.ghc_records.specs.Replay.{AreKnownIn, HaveStepNumbers, Replays, Runs, query_state}
pub use Rattle.ghc_records.specs.inner.Slots.{HasNumberIn, SlotList, StandsIn, held_before, held_in}
pub use Rattle.ghc_records.specs.State.{IsTakenBack}
pub use Rattle.ghc_records.specs.UseIndex.{StepBinds, StepDependsOn}
pub use Rattle.ghc_term.proofs.Chains.{leads_agree, leads_once, reaches_more}
pub use Rattle.ghc_term.proofs.Decided.{Decided, decided_both, decided_by, decided_either, in_decided, nat_decided, true_decided, some_decided}
pub use Rattle.ghc_term.proofs.ListsLemmas.{compare_splits, contains_in, in_at, in_contains, in_either, in_last, in_left, in_more, in_right, in_splits, each_in, splits_at}
pub use Rattle.ghc_term.proofs.MapsLemmas.{key_in}
pub use Rattle.ghc_term.proofs.Members.{In_at, has_member, one_more_member}
pub use Rattle.ghc_term.proofs.Names.{name_antisymmetric, name_total}
pub use Rattle.ghc_term.proofs.Placing.{one_value}
pub use Rattle.ghc_term.proofs.Searches.{In_either}
pub use Rattle.ghc_term.proofs.Sets.{set_of}
pub use Rattle.ghc_term.proofs.SetsLemmas.{any_in, holds_nothing, in_any, is_member}
pub use Rattle.ghc_term.proofs.Total.{same_name}
pub use Rattle.ghc_term.specs.Bindings.{IsAcyclic, name_cmp, with_binding}
pub use Rattle.ghc_term.specs.Expression.{Expression}
pub use Rattle.ghc_term.specs.Goal.{Goal, assign, call, stream, unify}
pub use Rattle.ghc_term.specs.Lists.{In}
pub use Rattle.ghc_term.specs.Store.{StoreValue, value_at}
pub use Rattle.ghc_term.specs.Tree.{Tree, integer}
pub use Rattle.ghc_term.specs.declared.goal_name.GoalName.{GoalName}
pub use Rattle.ghc_term.specs.declared.var_name.VarName.{VarName}
pub use Rattle.ghc_unify.proofs.Bound.{Fresh, bound_by, bound_is, has_value, is_bound, itself, keeps, moves_fresh, unbound_before}
pub use Rattle.ghc_unify.proofs.Commute.{bound_to}
pub use Rattle.ghc_unify.proofs.Extension.{Hold, all_extend}
pub use Rattle.ghc_unify.proofs.Locality.{by_value, comes_more}
pub use Rattle.ghc_unify.specs.Laws.{BindsAndReads}
pub use Rattle.ghc_unify.specs.Unify.{Unifies, with_bindings}
pub use Rattle.std.proofs.Common.{All, Bool, Err, IfNone, IfSome, IsSome, IsTrue, List, None, Ok, OnOk, Option, Result, Some, [], ap, append-nil, append_assoc, arith, cond, false, get_or, if◌then◌else◌, inl, inr, is_some, length, map, nat_eq, not, option_map, refl, slice_get, subst, subst₂, suc, sym, take, true, zero, ℕ, ℤ, ◌++◌, ◌+◌, ◌-◌, ◌<◌, ◌||◌, ◌↔◌, ◌∙◌, ◌∷◌, ◌≡◌, ◌≢◌, ◌≤◌, ◌⊎◌, drop}
pub use Rattle.std.proofs.Math.Nat.{eq-or-lt_of_le}
pub use Rattle.std.proofs.lemmas.Bool.{cases_lt, cases_order, eqb-true, lt-ltb, ltb-true, or_cases}
pub use Rattle.std.proofs.lemmas.List.{length-append, length-map, map-append, same_from_push, take_all, take_more, length-take}
pub use Rattle.std.proofs.lemmas.List.Elements.{All-contains}
pub use Rattle.std.proofs.lemmas.List.Quantifiers.{position-Some}
pub use Rattle.std.proofs.lemmas.Map.Views.{btree_set_contains_iff, tells_apart}
pub use Rattle.std.proofs.lemmas.Option.{slice_get-get_or, slice_get_within, get_or_from_slice_get, slice_get_cases}
pub use Rattle.std.specs.BTreeMap.Range.{IsLtBy}
pub use Rattle.std.specs.BTreeSet.{BTreeSet, contains, insert_key}
pub use Rattle.std.specs.Borrow.{Bor}
pub use Rattle.std.specs.Cmp.{nat_cmp_total, ranks, tied_itself}
pub use Rattle.std.specs.FinMap.{nat_cmp-IsAntisymmetric}
pub use Rattle.std.specs.FinMap.Entries.{is_some-find}
pub use Rattle.std.specs.List.{list_any, position}
pub use Rattle.std.specs.Map.{keys_of}
pub use Rattle.std.specs.Option.{option_copied, option_or}
pub use Rattle.std.specs.Ordering.{MatchOrdering, eq_by_cmp, is_eq, is_lt, match_ordering, nat_cmp, ord_min, ordering_reverse}
pub use Rattle.std.specs.Result.{OnErr}
pub use Rattle.std.specs.declared.cmp.Ordering.{Ordering}
pub use Rattle.std.specs.declared.cmp.Ordering.TheVariants.{Equal, Greater, Less}
