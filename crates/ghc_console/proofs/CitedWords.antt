-- The words of other crates and of the definitions that the proofs cite, from one place.
pub use Rattle.ghc_console.specs.inner.Answered.{AsksForListing, AsksForRun, HasRun, IsAnsweredBy, IsCommandAnsweredBy, IsListing, ServesSo, goals_asks, leap_asks, records_asks, save_asks, save_steps_asks, shelf_asks, skip_asks}
pub use Rattle.ghc_console.specs.AskedFor.{IsReadAskFor}
pub use Rattle.ghc_console.specs.Commands.{arrange_with, command_of, command_of_words, step_with}
pub use Rattle.ghc_console.specs.inner.Device.{Counts, WritesFront}
pub use Rattle.ghc_console.specs.Firing.{Fires, FiresInObeying, firings_in, firings_of, firings_of_obeying, runs_in, runs_of}
pub use Rattle.ghc_console.specs.LineMemory.{BeginsWithNumber, TakesMemory, for_numbers}
pub use Rattle.ghc_console.specs.Lines.{line_feeds, line_of, lines_of, onto, rows_of}
pub use Rattle.ghc_console.specs.ListingLaws.{ListingsAreWhole, SaysMemory}
pub use Rattle.ghc_console.specs.Listings.{TellsListing, kept_listed, kept_text, listed_or_none, records_listed, records_text, saved_text, session_listed, shelf_listed, shelf_text, steps_told}
pub use Rattle.ghc_console.specs.PredicateWords.{is_name, predicate_named, predicate_of, predicate_of_parts}
pub use Rattle.ghc_console.specs.Reading.{AsksAtNeed, CountsGiven, HasGathered, IsMadeOf, IsNextLine, LineSays, TakesFirst, TakesFront, TakesLine, line_limit}
pub use Rattle.ghc_console.specs.Replies.{Answers, AreGoalsTold, IsFrontOf, IsGoalTold, IsObeyed, IsReply, RepliesToAsk, RepliesToGoals, RepliesToInput, RepliesToKeep, RepliesToSaveSteps, RepliesToShow, RepliesToSpy, RepliesToStep, RepliesToWho, RepliesToWhy, Settled, TellsChange, TellsSlot, asks, fails, full, goal_too_long, has_asked, is_spied, is_undefined, keeps, keeps_nothing, lined, lines_or_none, lists, names_nothing, no_goals, no_memory, no_variable, not_kept, numbers_text, obeys, quits, reads, record_lines, refusal, refuses, replies, settled, shows, steps, takes, tells_binders, tells_history, tells_reasons, text_lines, too_long, unasked, unread, unsettled}
pub use Rattle.ghc_console.specs.RunReplies.{AreLinesTold, IsAdded, IsLineTold, RepliesToSkip, TellsRun, and_line, last_of, mode_of, no_goal, no_line, run_lines, skips, step_line, stop_line}
pub use Rattle.ghc_console.specs.ScheduleReplies.{Hears, HearsLine, IsAskedOf, IsDoneBy, IsGiven, PlaysCommand, reply_text, starves, told_text}
pub use Rattle.ghc_console.specs.ScheduleText.{ArePlayedOut, BrokenOff, PlaysLine, Schedule, TellsSchedule, WritesSchedule, hand_count, nothing_more, part_of_records, part_of_reply, then_begun, then_whole, told_at_end, with_hands}
pub use Rattle.ghc_console.specs.Session.{Began, Served, Session, Tells, at_end, broken, ends, goes_on, nothing_yet, went_on}
pub use Rattle.ghc_console.specs.SessionState.{HasClauseFor, SessionState, state_of}
pub use Rattle.ghc_console.specs.inner.Told.{IsJustChanged}
pub use Rattle.ghc_console.specs.VariableNamed.{IsGivenName, IsVariableNamed, numbered_of, variable_numbered, variable_of_parts}
pub use Rattle.ghc_console.specs.Words.{behind, from_space, goal_name_of, goal_named, goal_of_parts, in_front, is_printable, is_variable, number_of, numbers_of, unindented, words_of}
pub use Rattle.ghc_console.specs.inner.OnlyWrites.{OnlyWrites, ReadsNothing}
pub use Rattle.ghc_console.specs.inner.WritesTold.{WritesGoal, WritesGoals, WritesTold, form_text}
pub use Rattle.ghc_console.specs.declared.answered.Answered.{Answered}
pub use Rattle.ghc_console.specs.declared.answered.Answered.TheVariants.{Asks, Ends, Lists, Told}
pub use Rattle.ghc_console.specs.declared.command.LineCommand.{LineCommand}
pub use Rattle.ghc_console.specs.declared.command.LineCommand.TheVariants.{Ask, Goals, Input, Keep, Leap, Nothing, Obey, Quit, Records, Save, SaveSteps, Shelf, Show, Skip, Spy, Step, Unknown, Unspy, Who, Why}
pub use Rattle.ghc_console.specs.declared.devices.line_buffer.Gathered.{Gathered}
pub use Rattle.ghc_console.specs.declared.devices.reading.Line.{Line}
pub use Rattle.ghc_core.proofs.Moving.{opening_stays}
pub use Rattle.ghc_core.specs.Answers.{Fails}
pub use Rattle.ghc_core.specs.Change.{CanChange, IsBoundBy}
pub use Rattle.ghc_core.specs.Core.{Core}
pub use Rattle.ghc_core.specs.Counting.{CountsInObeying}
pub use Rattle.ghc_core.specs.EventCode.{reply_of}
pub use Rattle.ghc_core.specs.Events.{Command, Reply, arrange, ask, finish, input, redo, refused, roll, undo}
pub use Rattle.ghc_core.specs.Load.{AskForGoals, history_of}
pub use Rattle.ghc_core.specs.Playing.{empty_hands}
pub use Rattle.ghc_core.specs.Proposes.{IsCommitOf, StepFails}
pub use Rattle.ghc_core.specs.Settling.{AreKept}
pub use Rattle.ghc_core.specs.World.{Hands, World}
pub use Rattle.ghc_core.specs.declared.changes.Change.{Change}
pub use Rattle.ghc_core.specs.declared.changes.Change.TheVariants.{Comes}
pub use Rattle.ghc_core.specs.declared.changes.Coming.{Coming}
pub use Rattle.ghc_core.specs.declared.reply.Reply.TheVariants.{Refused}
pub use Rattle.ghc_depend.specs.Depend.{IsNotKept}
pub use Rattle.ghc_fire.specs.Meter.{one_more}
pub use Rattle.ghc_fire.specs.Proposal.{Proposal}
pub use Rattle.ghc_fire.specs.declared.meter.Meter.{Meter}
pub use Rattle.ghc_flat.specs.Clause.{Program}
pub use Rattle.ghc_flat.specs.Numbers.{AreNumbersFor}
pub use Rattle.ghc_flat.specs.Samples.{asked}
pub use Rattle.ghc_hooks.specs.Notes.{NotesByGoal}
pub use Rattle.ghc_pool.specs.Laws.{RunsAddAtTheEnd}
pub use Rattle.ghc_pool.specs.Runs.{Runs, RunsIn, Takes, and_step, and_tries, at_start}
pub use Rattle.ghc_pool.specs.declared.mode.Mode.{Mode}
pub use Rattle.ghc_pool.specs.declared.stop.Report.{Report}
pub use Rattle.ghc_reader.specs.Tests.{IsRefusal, a_term, an_ask}
pub use Rattle.ghc_records.proofs.Listing.{led, led_next}
pub use Rattle.ghc_records.proofs.OrderLemmas.{record_once}
pub use Rattle.ghc_records.proofs.SlotRanks.{rank, rank_end, rank_gap, rank_next, rank_stands, rank_zero}
pub use Rattle.ghc_records.specs.Chronicle.{chronicle_of}
pub use Rattle.ghc_records.specs.ChronicleText.{chronicle_heading, chronicle_lines, entries_line, opening_line, spies_line}
pub use Rattle.ghc_records.specs.EntryText.{entry_text}
pub use Rattle.ghc_records.specs.History.{History}
pub use Rattle.ghc_records.specs.HistoryText.{count_line, end_line, heading, history_text, lines_text}
pub use Rattle.ghc_records.specs.Journal.{Entry, step_of}
pub use Rattle.ghc_records.specs.Orders.{AreDistinct}
pub use Rattle.ghc_records.specs.Record.{Record, numbers}
pub use Rattle.ghc_records.specs.Replay.{IsVariableOf}
pub use Rattle.ghc_records.specs.inner.Slots.{SlotList, StandsIn, held_in}
pub use Rattle.ghc_records.specs.Predicates.{predicate_text as chronicle_predicate_text}
pub use Rattle.ghc_records.specs.StepText.{record_text, step_text}
pub use Rattle.ghc_records.specs.declared.predicate.Predicate.{Predicate}
pub use Rattle.ghc_term.proofs.ListsLemmas.{in_at, in_right, not_both}
pub use Rattle.ghc_term.specs.inner.Code.{var_inj}
pub use Rattle.ghc_fire.specs.Goals.{goal_cmp}
pub use Rattle.ghc_term.specs.Goal.{Goal}
pub use Rattle.ghc_term.specs.InputTerm.{is_name_byte}
pub use Rattle.ghc_term.specs.Lists.{In}
pub use Rattle.ghc_term.specs.Resolved.{IsTextOf}
pub use Rattle.ghc_term.specs.Store.{StoreValue, value_at}
pub use Rattle.ghc_term.specs.Tree.{Tree, variable}
pub use Rattle.ghc_term.specs.declared.fault.Fault.{Fault}
pub use Rattle.ghc_term.specs.declared.goal_name.GoalName.{GoalName}
pub use Rattle.ghc_term.specs.declared.var_name.VarName.{VarName}
pub use Rattle.ghc_trace.proofs.Lines.{each, next_in, one_long}
pub use Rattle.ghc_trace.specs.inner.GoalLinesCode.{lent}
pub use Rattle.ghc_trace.specs.Disturbed.{AreDisturbed, AreStuckOtherwise, Disturbed}
pub use Rattle.ghc_trace.specs.GoalLaws.{LinesAreOfGoals}
pub use Rattle.ghc_trace.specs.GoalLines.{AreGoalLines, HasTooLong, IsGoalLineOf, IsTooLong, Named, TellsGoal, goal_line, print_limit}
pub use Rattle.ghc_trace.specs.Laws.{Brings, IsSettled, NotesTellNews}
pub use Rattle.ghc_trace.specs.News.{Standing, news_text}
pub use Rattle.ghc_trace.specs.PortText.{port_text, ports_text}
pub use Rattle.ghc_trace.specs.Ports.{ArePorts, Port, resumed, taken_ports}
pub use Rattle.ghc_trace.specs.ReasonText.{reason_text}
pub use Rattle.ghc_trace.specs.Spies.{Spies, spies_in_order}
pub use Rattle.ghc_trace.specs.Who.{binder_text}
pub use Rattle.ghc_trace.specs.Why.{AreReasonsTold}
pub use Rattle.std.proofs.Common.{All, Bool, Bor, Err, HoldsAt, IfOk, IfSome, IsOk, IsTrue, List, MatchResult, None, Ok, OnErr, OnOk, Option, Result, Some, [], ap, append-nil, append_assoc, ap₂, arith, bytes_eq, codes, cond, drop, drop-cons, drop_of_length-le, eqb, false, filter, get_or, if◌then◌else◌, inl, inr, is_ok, is_some, leb, length, length-append, map, not, option_copied, option_map, refl, rules, slice_get, string_bytes, subst, subst₂, suc, sym, take, take-append-drop, true, zero, ℕ, ◌&&◌, ◌*◌, ◌++◌, ◌+◌, ◌-◌, ◌<◌, ◌||◌, ◌↔◌, ◌∙◌, ◌∷◌, ◌≡◌, ◌≢◌, ◌≤◌, ◌⊎◌}
pub use Rattle.std.proofs.KnownBytes.{Appends-kept, Appends-nil, Appends-trans, Consumes-kept, Consumes-nil, Keeps-refl, Keeps-trans, prepend_known-nil}
pub use Rattle.std.proofs.Math.Seq.{drop-append_seam, take-append_seam}
pub use Rattle.std.proofs.lemmas.Bool.{eq-eqb, eqb-true, false≢true, ne_eqb}
pub use Rattle.std.proofs.lemmas.List.{drop-drop, drop-take, drop_more, length-drop, length-map, length-take, map-append, nil_from_length, take_rest}
pub use Rattle.std.proofs.lemmas.List.Elements.{All-append, All-cons, All-head, All-tail}
pub use Rattle.std.proofs.lemmas.List.Splits.{join_with_byte-slice_split, slice_split-cons_no, slice_split-cons_yes, slice_split_at, slice_split_none}
pub use Rattle.std.proofs.lemmas.List.Sums.{AllPass-from_list_all, list_all-from_AllPass, sum_by-append}
pub use Rattle.std.proofs.lemmas.Option.{get_or_from_slice_get, slice_get-get_or, slice_get_cases, slice_get_within}
pub use Rattle.std.proofs.lemmas.Result.{err_from_is_err_and}
pub use Rattle.std.proofs.lemmas.Slice.Eq.{bytes_eq-Decides}
pub use Rattle.std.specs.Char.{digit_value, is_ascii_digit}
pub use Rattle.std.proofs.lemmas.List.Folds.{concat-append}
pub use Rattle.std.specs.Fmt.{decimal}
pub use Rattle.std.specs.List.{AllZip, concat}
pub use Rattle.std.specs.Io.BufRead.{strip_last}
pub use Rattle.std.specs.Io.KnownBytes.{Appends, Consumes, IsAtEnd, Keeps, prepend_known}
pub use Rattle.std.specs.List.{AllPass, join_with_byte, list_all, onto_first, slice_split}
pub use Rattle.std.specs.Str.{IsAscii}
pub use Rattle.std.specs.Str.Parse.{digits_value, digits_value_after}
