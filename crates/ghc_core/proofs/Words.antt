-- The words of other crates and of the definitions that the proofs cite, from one place.
pub use Rattle.ghc_core.specs.Answers.{Answers, AnswersEach, Asks, AsksFor, Fails, HasHand, IsRefusedFor, Obeys, Plays, Says, by_command, by_hand, does, fails, hands_after, makes, no_hand, no_memory, played, refuses, says, starves, to_arrange, to_ask, to_close, to_give, to_redo, to_roll, to_undo, told_of}
pub use Rattle.ghc_core.specs.Anyway.{HoldsNoGoal, IsNotAskedAnyway, IsNotCommittedAnyway, IsNotProposedAnyway}
pub use Rattle.ghc_core.specs.Arrangement.{Arrangement}
pub use Rattle.ghc_core.specs.Asked.{IsAskedFor}
pub use Rattle.ghc_core.specs.inner.AskedAgain.{CanBeAsked, CanBeAskedFor}
pub use Rattle.ghc_core.specs.AskedGoals.{AskFails, HasClauseFor, HasUndefined, IsOfAsk, NameKnown}
pub use Rattle.ghc_core.specs.inner.Carried.{AreAllCarriedBack, AreCarried, AreCarriedBack, AreCarriedOver, AreDropped, AreMarked, Consumed, ConsumedToTry, IsBound, IsGiven, IsToTry, MadeToTry}
pub use Rattle.ghc_core.specs.Change.{AreTakenAway, CanChange, Changes, GoWithIt, IsBoundBy, entry_of_going, with_coming, with_order, without_steps}
pub use Rattle.ghc_core.specs.CommandCode.{command_of}
pub use Rattle.ghc_core.specs.Core.{AreExactIn, Core, IsCommitted, IsConsistent, IsFaceOf, IsNotedFaceOf, IsStanding, Stays, choice_of, next_record, record_as}
pub use Rattle.ghc_core.specs.Counting.{FiresUnless, IsNotRedoneAnyway, after_firings, firings_of_entries, firings_of_entry, firings_of_step}
pub use Rattle.ghc_core.specs.EventCode.{event_of, reply_of}
pub use Rattle.ghc_core.specs.Events.{Command, Event, Reply, arrange, arranged, ask, command, commit, finish, held, input, note, noted, propose, redo, refused, roll, stepped, undo, undone}
pub use Rattle.ghc_core.specs.Facts.{RedoIsChanged, SecondHandIsStale, equals, query_world, two_hands}
pub use Rattle.ghc_core.specs.Gone.{Gone, all_gone}
pub use Rattle.ghc_core.specs.Laws.{CommitIsExact, EventsHaveOneAnswer, IsOrderly, NoStepIsFree, OrderedHasOneAnswer, StepIsExact, StreamStepIsExact}
pub use Rattle.ghc_core.specs.Legal.{IsProper, IsReachable, Leaves, and_entry, at_opening, by_event, the_opening, with_other_hands}
pub use Rattle.ghc_core.specs.Load.{AskForGoals, AsksForGoals, CanLoad, IsImpossible, IsPossibleAs, KeepsSlot, Loads, StopsAt, history_of, loads, stops, with_loaded}
pub use Rattle.ghc_core.specs.LoadLaws.{reloaded}
pub use Rattle.ghc_core.specs.Meets.{Meets, MeetsEach, Moves}
pub use Rattle.ghc_core.specs.Playing.{AddsOneAtMost, AnswersAddWhatTheyTell, ArePlayed, IsCauseOfFailure, PlayStaysReachable, hands_with, tells_change}
pub use Rattle.ghc_core.specs.Proposes.{AttemptAnswers, CommitFails, IsCommitOf, IsFiredNext, IsNoCandidate, IsReduction, IsStepOf, Notes, ProposesInFull, StepFails, StillHolds, no_goal, tells}
pub use Rattle.ghc_core.specs.Reached.{AreNamesOf, IsSound, Reaches, by_change, from_opening}
pub use Rattle.ghc_core.specs.Refusals.{CanUndo, HasConsequence, IsShelvedWith, IsToldWhere, LacksGoal, OrElse, RedoFails, UndoFails}
pub use Rattle.ghc_core.specs.Resume.{ArePredicatesOf, CarriesOut, CarriesOutEach, IsCarriedOut, IsOpened, IsPredicateOf, IsRefusedEntry, LacksBehind, Resumes, StopsBehind, chronicle_of_world, line_of_entry, line_of_spy, no_entry, no_spy, opening_of, resumes}
pub use Rattle.ghc_core.specs.Settling.{AreKept, AreNoted, IsNoteOf, IsNoted, tried_often}
pub use Rattle.ghc_core.specs.inner.StreamGoals.{TellStreams, all_told_back, first_made, name_of, opened, renamed, stream_of, told, told_back, with_name}
pub use Rattle.ghc_core.specs.Streams.{IsStreamAt, IsStreamStep, StreamFails}
pub use Rattle.ghc_core.specs.World.{Hands, HasRoom, IsFull, IsHand, IsKnown, IsNextStep, IsReplay, Opens, Proposal, World, emptied, no_hands, with_hand, with_step}
pub use Rattle.ghc_core.specs.declared.changes.Change.{Change}
pub use Rattle.ghc_core.specs.declared.changes.Change.TheVariants.{Comes, Goes, Reorders}
pub use Rattle.ghc_core.specs.declared.changes.Coming.{Coming}
pub use Rattle.ghc_core.specs.declared.changes.Going.{Going}
pub use Rattle.ghc_depend.proofs.Arranging.{neighbours_lawful}
pub use Rattle.ghc_depend.proofs.Causes.{at_split, place_at}
pub use Rattle.ghc_depend.proofs.ComingBack.{both_distinct, come_back}
pub use Rattle.ghc_depend.proofs.Comparing.{without_once}
pub use Rattle.ghc_depend.proofs.Decided.{decided, le_decided}
pub use Rattle.ghc_depend.proofs.Finding.{by_option, makes_at, named_or_not, not_both, own, own_made, same_value, without_it, without_other}
pub use Rattle.ghc_depend.proofs.Following.{alone, first_or_none, follows_in, split_closed}
pub use Rattle.ghc_depend.proofs.KeptOnce.{fires_once, keeps_once, runs_split, same_number, shelved, taken_append, taken_same, unshelved}
pub use Rattle.ghc_depend.proofs.Once.{consequences, orders}
pub use Rattle.ghc_depend.proofs.Picking.{before_front, distinct_left, distinct_push, distinct_split, no_longer, picks_distinct, picks_has, picks_in, records_push}
pub use Rattle.ghc_depend.proofs.Placing.{Place, apart_at, place_of, results_of}
pub use Rattle.ghc_depend.proofs.Results.{IsAsking, Results, Taken, asking_fires, firing, is_old, step_binds, taken, taken_at}
pub use Rattle.ghc_depend.proofs.TakenTogether.{alone_left, apart_behind, first_gone, follows_behind, found_behind, gone_distinct, gone_kept, picked_number, picks_all, picks_as, picks_within, rest_left, split_at, split_found}
pub use Rattle.ghc_depend.proofs.TakingBack.{is_without}
pub use Rattle.ghc_depend.specs.Deletion.{IsBoundIn, IsClosedUnder, IsPartedBy, IsWithoutSteps}
pub use Rattle.ghc_depend.specs.Depend.{Binds, DependsOn, Follows, GoesWith, IsFirstConsequence, IsKeptAs, IsNotKept, MakesGoal, directly, further}
pub use Rattle.ghc_depend.specs.Kept.{IsSplitAt, IsWithout, Keeps, taken_numbers, with_shelved}
pub use Rattle.ghc_depend.specs.Lawful.{IsInOrder, IsLawful}
pub use Rattle.ghc_fire.proofs.Answering.{apart, same_act, same_effect, same_fault}
pub use Rattle.ghc_fire.proofs.Asking.{asked_names, asks_as, asks_back, numbered_firsts}
pub use Rattle.ghc_fire.proofs.EachAnswer.{each_answer}
pub use Rattle.ghc_fire.proofs.EachEffect.{effect_decided}
pub use Rattle.ghc_fire.proofs.EachOnce.{firsts_in}
pub use Rattle.ghc_fire.proofs.GoalNames.{goal_antisymmetric, goal_total, same_goal, same_parts}
pub use Rattle.ghc_fire.proofs.Origins.{variables_come}
pub use Rattle.ghc_fire.proofs.Renamed.{in_goals}
pub use Rattle.ghc_fire.proofs.Replaced.{same_goals}
pub use Rattle.ghc_fire.proofs.Steps.{effect_binds, effect_each, effect_once}
pub use Rattle.ghc_fire.proofs.Tries.{attempt_once}
pub use Rattle.ghc_fire.proofs.Under.{effect_under, goals_twice, proposal_as}
pub use Rattle.ghc_fire.specs.Asked.{IsAsk, NameNoneOf, asked_as, effect_of_asking, made_from, own_variables, renumbered, variables_asked}
pub use Rattle.ghc_fire.specs.Attempt.{Answer, AssignmentAnswers, Attempts, CallAnswers, ChoiceAnswers, UnificationAnswers, proposes}
pub use Rattle.ghc_fire.specs.Effect.{Closes, Effect, Feeds, HasEffect, ReadsTail, no_step}
pub use Rattle.ghc_fire.specs.Goals.{Goals, goal_cmp}
pub use Rattle.ghc_fire.specs.Instance.{made, replace_in_goal}
pub use Rattle.ghc_fire.specs.Laws.{EffectIsOne, HasNoVariableOf}
pub use Rattle.ghc_fire.specs.Meter.{fired, tried}
pub use Rattle.ghc_fire.specs.Proposal.{numbered, under}
pub use Rattle.ghc_fire.specs.inner.Tail.{IsTailBound}
pub use Rattle.ghc_fire.specs.declared.act.Act.{Act}
pub use Rattle.ghc_fire.specs.declared.act.Act.TheVariants.{Asked, Assigned, ByClause, Closed, Given, Unified}
pub use Rattle.ghc_fire.specs.declared.meter.Meter.{Meter}
pub use Rattle.ghc_flat.proofs.Clauses.{calls_next, first_undefined, not_a_call, same_call}
pub use Rattle.ghc_flat.proofs.Faults.{call_once, no_call}
pub use Rattle.ghc_flat.specs.Checked.{AllCalls, IsFirstCallWithout}
pub use Rattle.ghc_flat.specs.Clause.{Program, Query}
pub use Rattle.ghc_flat.specs.Flat.{AreDefined, IsProgram, IsQuery, is_stream, most_goals}
pub use Rattle.ghc_flat.specs.Numbers.{AreNumbersFor}
pub use Rattle.ghc_flat.specs.Samples.{asked}
pub use Rattle.ghc_flat.specs.Variables.{firsts, variables_of_goals}
pub use Rattle.ghc_hooks.proofs.Changing.{still_noted}
pub use Rattle.ghc_hooks.proofs.EachStatus.{each_status}
pub use Rattle.ghc_hooks.proofs.Few.{take_absent}
pub use Rattle.ghc_hooks.proofs.Fitting.{gone_elsewhere, gone_here, put_elsewhere, put_here}
pub use Rattle.ghc_hooks.proofs.LookedAt.{exact_stays}
pub use Rattle.ghc_hooks.proofs.Looking.{goal_cases, goal_itself, goal_put, goal_taken, one_less}
pub use Rattle.ghc_hooks.proofs.LookingAll.{earlier, latest, so_far}
pub use Rattle.ghc_hooks.proofs.NotedFaces.{settled_notes}
pub use Rattle.ghc_hooks.proofs.Statuses.{status_once}
pub use Rattle.ghc_hooks.proofs.Waking.{spared_next, woken_next}
pub use Rattle.ghc_hooks.specs.Face.{Face, GoalNames}
pub use Rattle.ghc_hooks.specs.Notes.{AreExact, AreLeft, IsExact, Note, NotesByGoal}
pub use Rattle.ghc_hooks.specs.Status.{HasStatus, Status, failed}
pub use Rattle.ghc_hooks.specs.Tries.{AreSpared, AreWoken, Tries}
pub use Rattle.ghc_hooks.specs.Verdict.{status_of}
pub use Rattle.ghc_match.proofs.AlikeLemmas.{shown_value}
pub use Rattle.ghc_match.specs.Position.{EndsIn}
pub use Rattle.ghc_reader.specs.Written.{AreNarrow, AreNumbered, IsWellAsked, WrittenQuery}
pub use Rattle.ghc_records.proofs.AskingLines.{made_more}
pub use Rattle.ghc_records.proofs.Effects.{HasOnly, after_acyclic, after_has, has_more, not_stream}
pub use Rattle.ghc_records.proofs.Heads.{first_in}
pub use Rattle.ghc_records.proofs.InOrder.{not_again}
pub use Rattle.ghc_records.proofs.Made.{last_first, name}
pub use Rattle.ghc_records.proofs.NumberSets.{one_or_not}
pub use Rattle.ghc_records.proofs.OrderLemmas.{Before, before_in, before_once, is_before, number_in, number_of, numbers_append, picks_once, record_once, records_distinct}
pub use Rattle.ghc_records.proofs.Replaying.{of_query, replay_well, run_once}
pub use Rattle.ghc_records.proofs.SlotLemmas.{held_stands}
pub use Rattle.ghc_records.proofs.SlotPlaces.{one_record}
pub use Rattle.ghc_records.proofs.SlotRanks.{rank, rank_end, rank_gap, rank_next, rank_stands, rank_zero}
pub use Rattle.ghc_records.proofs.States.{bound_at, made_or_old}
pub use Rattle.ghc_records.proofs.StreamLemmas.{OneEach, after_one_each, made_at, query_one_each, run_one_each, stream_made}
pub use Rattle.ghc_records.specs.Chronicle.{Chronicle, entry_limit, next_after, next_behind}
pub use Rattle.ghc_records.specs.ChronicleText.{TellsChronicle}
pub use Rattle.ghc_records.specs.inner.EntryCode.{entry_of}
pub use Rattle.ghc_records.specs.History.{History, IsHistory, loaded_opening}
pub use Rattle.ghc_records.specs.HistoryText.{SaysAct, SaysStep}
pub use Rattle.ghc_records.specs.Journal.{Entry, Item, Opening, Step, entered, history, opening_journal, redid, reordered, rolled, step_of, took, undid}
pub use Rattle.ghc_records.specs.Laws.{IsWellMade}
pub use Rattle.ghc_records.specs.Numbers.{IsStepNumber, kept_limit, number_limit}
pub use Rattle.ghc_records.specs.Orders.{AreDistinct, Picks, leave, nothing}
pub use Rattle.ghc_records.specs.Record.{Fires, HasStepEffect, IsThere, Record, Shelf, State, after, numbers, with_makes, without_goal}
pub use Rattle.ghc_records.specs.Replay.{AreKnownIn, HaveStepNumbers, IsVariableOf, MakesVariable, NameWhatIsKnown, Replays, Runs, query_state}
pub use Rattle.ghc_records.specs.inner.Slots.{SlotList, StandsIn, held_in}
pub use Rattle.ghc_records.specs.State.{AreTakenBack, ConsumesGoal, IsTakenBack}
pub use Rattle.ghc_records.specs.UseIndex.{RecordsTables}
pub use Rattle.ghc_records.specs.inner.WrittenEntryCode.{said_by}
pub use Rattle.ghc_records.specs.declared.predicate.Predicate.{Predicate}
pub use Rattle.ghc_records.specs.declared.written_entry.WrittenEntry.{WrittenEntry}
pub use Rattle.ghc_term.proofs.Chains.{leads_once}
pub use Rattle.ghc_term.proofs.Decided.{Decided, decided_both, decided_by, decided_either, in_decided, name_decided, nat_decided, same_decided, some_decided}
pub use Rattle.ghc_term.proofs.Entries.{tie}
pub use Rattle.ghc_term.proofs.Exact.{exact}
pub use Rattle.ghc_term.proofs.Indexed.{inserted, removed, value_is}
pub use Rattle.ghc_term.proofs.ListsLemmas.{at_of_in, compare_splits, contains_in, each_next, in_at, in_either, in_get, in_last, in_left, in_map, in_middle, in_more, in_place, in_right, splits_at}
pub use Rattle.ghc_term.proofs.MapsLemmas.{at_some}
pub use Rattle.ghc_term.proofs.Members.{In_at, one_more_member}
pub use Rattle.ghc_term.proofs.Names.{name_total}
pub use Rattle.ghc_term.proofs.Placing.{set_other, set_same}
pub use Rattle.ghc_term.proofs.SetsLemmas.{any_in, has_member, holds_nothing, in_any, is_member, one_inserted, same_held}
pub use Rattle.ghc_term.proofs.Total.{chain}
pub use Rattle.ghc_term.specs.Answered.{Answered}
pub use Rattle.ghc_term.specs.Bindings.{IsAcyclic, Leads, here, name_cmp, now, through}
pub use Rattle.ghc_term.specs.inner.Code.{var_inj}
pub use Rattle.ghc_term.specs.Goal.{Goal, assign, call, stream, unify}
pub use Rattle.ghc_term.specs.inner.GoalCode.{goal_code}
pub use Rattle.ghc_term.specs.Lists.{In}
pub use Rattle.ghc_term.specs.Store.{StoreValue, value_at}
pub use Rattle.ghc_term.specs.Tree.{IsClosed, IsValue, Tree, cons, integer, nil, variable}
pub use Rattle.ghc_term.specs.declared.fault.Fault.{Fault}
pub use Rattle.ghc_term.specs.declared.goal_name.GoalName.{GoalName}
pub use Rattle.ghc_term.specs.declared.var_name.VarName.{VarName}
pub use Rattle.ghc_unify.proofs.Ends.{comes_leads, left_end}
pub use Rattle.ghc_unify.specs.Solutions.{replace}
pub use Rattle.ghc_unify.specs.Unify.{go, left, stay}
pub use Rattle.std.proofs.Common.{Bool, Err, IfErr, IfNone, IfOk, IfSome, IsSome, IsTrue, List, MatchBool, None, Ok, Option, Result, Some, [], ap, append-nil, append_assoc, arith, cond, drop, drop-cons, drop_of_length-le, eqb, false, filter, get_or, if◌then◌else◌, inl, inr, is_some, length, map, nat_eq, not, option_map, pos, refl, rules, slice_get, slice_set, subst, subst₂, suc, sym, take, true, vec_capacity, vec_len, zero, ℕ, ◌++◌, ◌+◌, ◌-◌, ◌<◌, ◌==◌, ◌↔◌, ◌∙◌, ◌∷◌, ◌≡◌, ◌≢◌, ◌≤◌, ◌⊎◌}
pub use Rattle.std.proofs.lemmas.Bool.{cases_eq, cases_lt, eq-eqb, false_from_ne_true, false≢true, ne_eqb, true≢false}
pub use Rattle.std.proofs.lemmas.Bool.Decides.{eqb_tells}
pub use Rattle.std.proofs.lemmas.List.{get_or-map, length-append, length-map, length-take-le, map-append, nil_from_length, take_all, take_more, append_cancel_left, take-append-drop}
pub use Rattle.std.proofs.lemmas.List.Elements.{filter-append}
pub use Rattle.std.proofs.lemmas.Map.Views.{Contains-from_any}
pub use Rattle.std.proofs.lemmas.Option.{get_or_from_slice_get, slice_get-get_or, slice_get_read, slice_get_within, slice_get_cases}
pub use Rattle.std.proofs.lemmas.Result.{IfOk-weaker, err_from_is_err_and}
pub use Rattle.std.specs.Cmp.{nat_cmp_total, tied_itself}
pub use Rattle.std.specs.Coded.{coded_list, coded_ℕ}
pub use Rattle.std.specs.FinMap.{nat_cmp-IsAntisymmetric}
pub use Rattle.std.specs.FinMap.Entries.{is_some-find}
pub use Rattle.std.specs.List.{list_any}
pub use Rattle.std.specs.Map.{keys_of}
pub use Rattle.std.specs.Option.{option_copied, option_or}
pub use Rattle.std.specs.Ordering.{eq_by_cmp, is_eq, nat_cmp}
