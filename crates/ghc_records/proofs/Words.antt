-- The words of other crates and of the definitions that the proofs cite, from one place.
pub use Rattle.ghc_fire.proofs.Asking.{called_length, written_askable, written_firsts}
pub use Rattle.ghc_fire.proofs.EachOnce.{firsts_in, renamed_firsts}
pub use Rattle.ghc_fire.proofs.FoundEffects.{none_weaker}
pub use Rattle.ghc_fire.proofs.Gathering.{one_put, shown_by}
pub use Rattle.ghc_fire.proofs.Ordered.{entries_are, inserted, value_in}
pub use Rattle.ghc_fire.proofs.Origins.{Inside, firsts_have, variables_come}
pub use Rattle.ghc_fire.proofs.Renamed.{in_goals}
pub use Rattle.ghc_fire.proofs.Replaced.{by, goals_renamed, same_goals}
pub use Rattle.ghc_fire.proofs.Steps.{effect_acyclic}
pub use Rattle.ghc_fire.proofs.Under.{goals_twice}
pub use Rattle.ghc_fire.specs.Asked.{Asks, NameNoneOf, asked_of, called, called_by, made_from, named_so, variables_asked}
pub use Rattle.ghc_fire.specs.Effect.{Effect, HasEffect}
pub use Rattle.ghc_fire.specs.Goals.{Goals, goal_cmp}
pub use Rattle.ghc_fire.specs.Instance.{becomes, made, replace_in_expression, replace_in_goal}
pub use Rattle.ghc_fire.specs.Laws.{ComesFrom}
pub use Rattle.ghc_fire.specs.declared.act.Act.{Act}
pub use Rattle.ghc_fire.specs.declared.act.Act.TheVariants.{Asked, Assigned, ByClause, Closed, Given, Unified}
pub use Rattle.ghc_flat.specs.Clause.{Program, Query}
pub use Rattle.ghc_flat.specs.Flat.{IsProgram, IsQuery, is_stream}
pub use Rattle.ghc_flat.specs.Variables.{variables_of_goal}
pub use Rattle.ghc_reader.proofs.Numbered.{is_seen, test_cases}
pub use Rattle.ghc_reader.proofs.PrintedNames.{decimal_run, one_variable}
pub use Rattle.ghc_reader.proofs.TermsLowered.{variables_of_trees}
pub use Rattle.ghc_reader.proofs.TokenTexts.{run_of_digits}
pub use Rattle.ghc_reader.proofs.Values.{digits_told, numbered_by}
pub use Rattle.ghc_reader.proofs.WithinLimits.{ask_well_put}
pub use Rattle.ghc_reader.specs.Bytes.{IsRun}
pub use Rattle.ghc_reader.specs.Lexed.{IsNumberedAs, greatest_number}
pub use Rattle.ghc_reader.specs.Lowered.{AreNamed, Each, IsCalled, Names, SaysAllBy, SaysBy, SaysGoalBy, SaysValueBy, blank, doing}
pub use Rattle.ghc_reader.specs.PrintedGoals.{AreWritable, HasNumbers, IsNamedIn, IsPrintedAs, IsReadAs, IsWritable, IsWritableExpression, IsWritableGoal, IsWritableOperand, IsWritableTarget, further_goals, goals_text}
pub use Rattle.ghc_reader.specs.Read.{IsReadBody, IsReadTerm}
pub use Rattle.ghc_reader.specs.Source.{Value, cell, empty, named, number, product, some, structure, sum}
pub use Rattle.ghc_reader.specs.Tests.{IsRefusal, a_body, a_term}
pub use Rattle.ghc_reader.specs.Written.{AreApart, AreNumbered, IsWithinLimits}
pub use Rattle.ghc_reader.specs.WrittenAsk.{IsNaming, IsWellPut, WrittenAsk, is_new, of_no_step, of_query, of_state}
pub use Rattle.ghc_records.specs.Chronicle.{AreBelow, AreInTurn, Chronicle, IsInTurn, chronicle_of, entry_limit, next_after, next_behind, spy_limit}
pub use Rattle.ghc_records.specs.ChronicleLaws.{CanBeAsked, CanBeSaid, CanBeSpied, CanBeTold, IsOfNoGoal}
pub use Rattle.ghc_records.specs.ChronicleText.{IsChronicleRefusal, IsFirstWrongInChronicle, IsNext, TellsChronicle, TellsEnd, TellsEntries, TellsOpening, TellsSpies, behind_lines, chronicle_heading, chronicle_lines, chronicle_text, entries_line, lines_to_end, lines_to_spies, no_end, no_entry, no_heading, no_opening, no_spy, no_step, opening_line, spies_line}
pub use Rattle.ghc_records.specs.EntryText.{AreNewInOrder, IsNamed, OpensFew, SaysAsking, SaysEntry, SaysGoals, entry_text, numbers_behind}
pub use Rattle.ghc_records.specs.inner.Handles.{goals_of}
pub use Rattle.ghc_records.specs.History.{History, IsHistory}
pub use Rattle.ghc_records.specs.HistoryLaws.{IsInRange, IsOfAGoal, line_feeds}
pub use Rattle.ghc_records.specs.HistoryText.{IsFirstWrongLine, IsHistoryRefusal, IsLine, IsLineOf, SaysAct, SaysStep, TellsCount, TellsHistory, TellsNext, TellsNoMore, TellsSteps, behind_count, count_line, end_line, heading, history_lines, history_text, lines_text, pieces_of}
pub use Rattle.ghc_records.specs.Journal.{Entry, Step, redid, reordered, rolled, took, undid}
pub use Rattle.ghc_records.specs.Laws.{ReplayIsOne, ReplayIsWellMade}
pub use Rattle.ghc_records.specs.inner.NumberSet.{HoldsEachOnce, IsRising, numbers_of, room_of}
pub use Rattle.ghc_records.specs.Numbers.{kept_limit, number_limit}
pub use Rattle.ghc_records.specs.Orders.{AreDistinct, Picks, Precedes, leave, nothing}
pub use Rattle.ghc_records.specs.Predicates.{GoTogether, SaysPredicate, predicate_text}
pub use Rattle.ghc_records.specs.Record.{Fires, HasStepEffect, IsThere, Record, State, after, numbers, with_makes, without_goal}
pub use Rattle.ghc_records.specs.Replay.{IsVariableOf, MakesVariable, Runs, query_state}
pub use Rattle.ghc_records.specs.Sections.{IsFirstWrongOf, TellsItems, TellsNoMoreItems, TellsSection, no_count, no_item}
pub use Rattle.ghc_records.specs.inner.Slots.{AreOnceIn, AreStraysOf, HasNumberIn, HasStrayIn, IsChangedAt, PlacesByNumber, SlotList, StandsIn, held_before, held_in, places_of, room_beside}
pub use Rattle.ghc_records.specs.State.{GoalsTakenBack, StateTables, with_goal, without_makes}
pub use Rattle.ghc_records.specs.StepText.{act_text, binding_text, bindings_text, body_text, by_name, consumed_text, followed_by, goal_name_text, listed, makes_text, names_given, step_text, variables_text}
pub use Rattle.ghc_records.specs.UseIndex.{AreAllEmpty, BindersByVariable, BoundOnce, BoundOneOf, CanTake, Gave, HasGrown, Index, IsIndexOf, IsMakerFor, IsMakerOf, IsUser, MadeOneOf, RecordsTables, StepBinds, StepDependsOn, UsersByStep, numbered, numbers_in, room_in, step_named, users_at, users_in}
pub use Rattle.ghc_records.specs.Uses.{Binds, Consumes, MakesGoal, Uses}
pub use Rattle.ghc_records.specs.inner.WrittenEntryCode.{said_by}
pub use Rattle.ghc_records.specs.declared.predicate.Predicate.{Predicate}
pub use Rattle.ghc_term.proofs.Decided.{nat_decided}
pub use Rattle.ghc_term.proofs.Entries.{tie}
pub use Rattle.ghc_term.proofs.GoalNames.{apart, goal_total, same_goal, same_parts}
pub use Rattle.ghc_term.proofs.Indexed.{done, removed, value_is}
pub use Rattle.ghc_term.proofs.ListsLemmas.{at_of_in, in_at, in_contains, in_either, in_get, in_last, in_left, in_map, in_more, in_right, in_splits, not_both, splits_at}
pub use Rattle.ghc_term.proofs.MapsLemmas.{at_some}
pub use Rattle.ghc_term.proofs.Merged.{by_answers}
pub use Rattle.ghc_term.proofs.Names.{itself, name_antisymmetric, name_total}
pub use Rattle.ghc_term.proofs.Placing.{one_value, push_before, push_either, push_last, set_other}
pub use Rattle.ghc_term.proofs.SetsLemmas.{has_member, in_any, is_member}
pub use Rattle.ghc_term.proofs.Total.{empty_acyclic, same_name}
pub use Rattle.ghc_term.specs.Answered.{Answered, IsExact}
pub use Rattle.ghc_term.specs.Bindings.{IsAcyclic, Reaches, here, name_cmp, through}
pub use Rattle.ghc_term.specs.Expression.{Expression, leaf, operation}
pub use Rattle.ghc_term.specs.Goal.{Goal, assign, call, stream, unify}
pub use Rattle.ghc_term.specs.GoalText.{expression_text, goal_text, operand, operator_text}
pub use Rattle.ghc_term.specs.InputTerm.{AllInGrammar, IsHead, IsInGrammar, IsInputTerm, IsNameText, is_name_byte, most_open, open_behind}
pub use Rattle.ghc_term.specs.Lists.{In}
pub use Rattle.ghc_term.specs.Resolved.{all_resolved}
pub use Rattle.ghc_term.specs.Sets.{Variables}
pub use Rattle.ghc_term.specs.Store.{StoreValue, value_at, with_binds}
pub use Rattle.ghc_term.specs.Table.{Table}
pub use Rattle.ghc_term.specs.Text.{arguments_text, barred, cell_text, further_text, is_cell, is_nil, rest_text, term_text, variable_text}
pub use Rattle.ghc_term.specs.Tree.{Tree, Trees, integer, list_of, more, node, none, trees, variable}
pub use Rattle.ghc_term.specs.Variables.{firsts, variables, variables_of_all, variables_of_expression, variables_of_goals, variables_of_list}
pub use Rattle.ghc_term.specs.declared.fault.Fault.{Fault}
pub use Rattle.ghc_term.specs.declared.goal_name.GoalName.{GoalName}
pub use Rattle.ghc_term.specs.declared.operator.Operator.{Operator}
pub use Rattle.ghc_term.specs.declared.operator.Operator.TheVariants.{Add, Divide, Modulo, Multiply, Subtract}
pub use Rattle.ghc_term.specs.declared.var_name.VarName.{VarName}
pub use Rattle.ghc_unify.specs.Solutions.{replace, replace_all}
pub use Rattle.indexmap.specs.IndexMap.{spare}
pub use Rattle.indexmap.specs.IndexSet.{insert_key}
pub use Rattle.std.proofs.Common.{All, Bool, Err, FitsSigned, IfNone, IfOk, IfSome, IsOk, IsSome, IsTrue, List, MatchOption, MatchResult, None, Ok, OnErr, OnOk, Option, Result, Some, [], ap, append_assoc, arith, codes, cond, decimal, drop, drop_of_length-le, eqb, false, filter, get_or, if◌then◌else◌, inl, inr, is_ok, is_some, length, length-append, length-drop, ltb, map, min, nat_eq, negsuc, not, option_map, pos, refl, rules, slice_get, slice_set, string_bytes, subst, suc, sym, take, true, vec_capacity, vec_len, w64, zero, ℕ, ℤ, ◌&&◌, ◌*◌, ◌++◌, ◌+◌, ◌-◌, ◌<◌, ◌==◌, ◌^◌, ◌||◌, ◌↔◌, ◌∙◌, ◌∷◌, ◌≡◌, ◌≢◌, ◌≤◌, ◌⊎◌}
pub use Rattle.std.proofs.Math.Seq.{drop-cons}
pub use Rattle.std.proofs.lemmas.Bool.{and_parts, cases_Bool, cases_lt, cases_order, eq-eqb, eqb-true, false_from_ne_true, lt-ltb, ltb-false, ltb-true, ne_eqb, or_cases, or_parts, or_right, true_from_ne_false}
pub use Rattle.std.proofs.lemmas.Bool.Decides.{Decides-eqb, nat_tests}
pub use Rattle.std.proofs.lemmas.Fmt.{decimal-digits_value, decimal_digit, decimal_injective, decimal_is_IsNumeral, decimal_nonempty, first_decimal}
pub use Rattle.std.proofs.lemmas.Fn.{filter_same}
pub use Rattle.std.proofs.lemmas.Grind.{common_steps}
pub use Rattle.std.proofs.lemmas.List.{append-nil, append_cancel_left, at_drop_more, drop-drop, drop_all, drop_more, get_or_default, length-map, length-take-le, map-append, nil_from_length, take-append-drop, take_all, take_more}
pub use Rattle.std.proofs.lemmas.List.Elements.{All-append, All-cons, All-nil, All-push, filter_more, recursion_from_All}
pub use Rattle.std.proofs.lemmas.List.Sorted.{searched}
pub use Rattle.std.proofs.lemmas.List.Splits.{join_with_byte-slice_split, length-slice_split, slice_split-cons_no, slice_split-cons_yes, slice_split_at, slice_split_none}
pub use Rattle.std.proofs.lemmas.Map.Made.{keys_of-map_values, lookup-map_values}
pub use Rattle.std.proofs.lemmas.Option.{get_or_from_slice_get, slice_get-map, slice_get_read, slice_get_within}
pub use Rattle.std.proofs.lemmas.Result.{on_ok_weaker}
pub use Rattle.std.proofs.lemmas.Slice.Eq.{bytes_eq-Decides, strip_prefix_is}
pub use Rattle.std.proofs.lemmas.Str.Parse.{IsDigitsTest, digit_from_value, numerals_by_value}
pub use Rattle.std.specs.Borrow.{Bor}
pub use Rattle.std.specs.Char.{digit_value, is_ascii_digit, is_ascii_lowercase}
pub use Rattle.std.specs.Cmp.{IsTotalOrder, eq_by_cmp_equiv, nat_cmp_total, tied_itself}
pub use Rattle.std.specs.FinMap.{IsAntisymmetric, nat_cmp-IsAntisymmetric}
pub use Rattle.std.specs.Fmt.{signed_decimal}
pub use Rattle.std.specs.Io.{StartsWith}
pub use Rattle.std.specs.List.{AllByRecursion, insert, join_with_byte, list_all, list_any, onto_first, remove, slice_split}
pub use Rattle.std.specs.List.Sorted.{IsBinarySearchResult, IsStrictlySortedBy}
pub use Rattle.std.specs.Map.{keys_of, lookup}
pub use Rattle.std.specs.Option.{option_copied, option_or}
pub use Rattle.std.specs.Ordering.{eq_by_cmp, is_eq, nat_cmp}
pub use Rattle.std.specs.Prelude.{unwrap_or}
pub use Rattle.std.specs.Str.{IsAscii}
pub use Rattle.std.specs.Str.Parse.{AllDigits, digits_value, digits_value_after}
pub use Rattle.std.specs.declared.cmp.Ordering.{Ordering}
