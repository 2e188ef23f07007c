-- The words of other crates and of the definitions that the proofs cite, from one place.
pub use Rattle.clap.proofs.CallerLemmas.{added_plain, entry_by_id, required_in_chain, same_rules_by_id}
pub use Rattle.clap.specs.Built.{AddsArg, FitsChain, HasDistinctIds, IsAuto, IsPlain}
pub use Rattle.clap.specs.Facts.{Entry, EntryPasses, HasReading, PassesArg, args_of, groups_of, parser_of, parser_of_value}
pub use Rattle.clap.specs.Matches.{ReadsOne, matched_of, one_text}
pub use Rattle.clap.specs.Values.{Accepts, IsUnsignedIn, read_as, reading_of}
pub use Rattle.clap.specs.Words.{IsParsedFrom, IsPlainArg, first_value, found_of}
pub use Rattle.clap.specs.declared.builder.arg.Arg.{Arg}
pub use Rattle.clap.specs.declared.builder.command.Command.{Command}
pub use Rattle.clap.specs.declared.builder.command.Command.TheViews.{out-Command}
pub use Rattle.clap.specs.declared.builder.value_parser.ValueParser.{ValueParser}
pub use Rattle.clap.specs.declared.parser.matches.ArgMatches.{ArgMatches}
pub use Rattle.clap.specs.declared.parser.matches.Found.{Found}
pub use Rattle.clap.specs.declared.parser.matches.MatchedArg.{MatchedArg}
pub use Rattle.ghc_console.specs.Replies.{saved_text}
pub use Rattle.ghc_console.specs.ScheduleText.{BrokenOff, IsScheduleOf, Schedule, part_of_records, then_begun, then_whole, told_at_end}
pub use Rattle.ghc_console.specs.Session.{Began, Session, Tells, at_end, broken, ends, goes_on, nothing_yet, went_on}
pub use Rattle.ghc_console.specs.SessionState.{SessionState}
pub use Rattle.ghc_console.specs.declared.debugger.Debugger.{Debugger}
pub use Rattle.ghc_core.proofs.Crosses.{core_send, core_sync}
pub use Rattle.ghc_core.specs.AskedGoals.{HasClauseFor}
pub use Rattle.ghc_core.specs.Core.{Core, IsStanding}
pub use Rattle.ghc_core.specs.HistoryLaws.{LegalIsReachable}
pub use Rattle.ghc_core.specs.Laws.{EventsLeadWhereChangesLead}
pub use Rattle.ghc_core.specs.Reached.{IsSound, from_opening}
pub use Rattle.ghc_core.specs.Resume.{ArePredicatesOf, IsCarriedOut, Resumes, chronicle_of_world}
pub use Rattle.ghc_core.specs.ResumeLaws.{CarriedOutIsLegal, WhatIsToldIsCarriedOut}
pub use Rattle.ghc_core.specs.World.{Opens, World, no_hands}
pub use Rattle.ghc_flat.proofs.Faults.{accepted_no_fault, fault_once, first_fault_no, program_once}
pub use Rattle.ghc_flat.specs.Checked.{AreMadeOf, HasClause, IsFault, IsProgramFault}
pub use Rattle.ghc_flat.specs.Clause.{Clause, Program, Query}
pub use Rattle.ghc_flat.specs.Numbers.{AreNumbersFor}
pub use Rattle.ghc_flat.specs.inner.Refused.{IsRefusedAs}
pub use Rattle.ghc_flat.specs.declared.refused.Refused.{Refused}
pub use Rattle.ghc_reader.proofs.ExactReading.{no_program_refused, no_query_refused, one_program_refusal, one_query_refusal}
pub use Rattle.ghc_reader.proofs.OneMeaning.{one_program_read, one_query_read}
pub use Rattle.ghc_reader.proofs.OneReading.{answered_once, one_program_tree}
pub use Rattle.ghc_term.specs.Limit.{text_limit}
pub use Rattle.ghc_reader.specs.Read.{IsReadProgram, IsReadQuery}
pub use Rattle.ghc_reader.specs.Tests.{IsRefusal, a_program, by_tokens, too_long}
pub use Rattle.ghc_reader.specs.Written.{WrittenClause, WrittenQuery}
pub use Rattle.ghc_records.specs.Chronicle.{Chronicle}
pub use Rattle.ghc_records.specs.ChronicleLaws.{TextsTellOneChronicle, WrittenChroniclesAreReadAgain}
pub use Rattle.ghc_records.specs.ChronicleText.{TellsChronicle, chronicle_heading}
pub use Rattle.ghc_records.specs.History.{History, loaded_opening}
pub use Rattle.ghc_records.specs.HistoryText.{IsFirstWrongLine, IsLine, TellsHistory, heading, no_heading}
pub use Rattle.ghc_records.specs.Journal.{Opening}
pub use Rattle.ghc_term.proofs.Exact.{exact}
pub use Rattle.ghc_term.proofs.ListsLemmas.{contains_in, in_contains, in_map}
pub use Rattle.ghc_term.specs.Answered.{AnsweredUnless}
pub use Rattle.ghc_term.specs.Lists.{In}
pub use Rattle.ghc_term.specs.declared.fault.Fault.{Fault}
pub use Rattle.ghc_term.specs.declared.fault.Fault.TheVariants.{Memory}
pub use Rattle.ghc_trace.proofs.Spied.{predicate_antisymmetric, predicate_total}
pub use Rattle.ghc_trace.specs.Spies.{HasPredicate, Spies, predicate, predicate_cmp, spied_of, spies_in_order}
pub use Rattle.ghc_trace.specs.SpyLaws.{ListedSpiesComeBack}
pub use Rattle.ghc_trace.specs.declared.spies.Predicate.{Predicate}
pub use Rattle.ghcdb.specs.inner.CommandLine.{HasOptions, IsGhcdb, IsOptionalValue, IsRequiredValue, IsWorkersValue, SaysNumber}
pub use Rattle.ghcdb.specs.inner.Workers.{HasLargePredicate}
pub use Rattle.ghcdb.specs.HistoryFront.{IsHeadingLine, IsReadOf, WhatIsReadTells, heading_bytes}
pub use Rattle.ghcdb.specs.Opening.{GivesBack, IsDebuggerOf, IsHistoryFault, IsHistoryRefused, IsOpenRefusal, IsWithoutMemory, OpensOn, at_start, for_history, loads, of_chronicle, of_entry, of_history, of_start, of_step, of_text, resumes}
pub use Rattle.ghcdb.specs.inner.Outputs.{HasBeginning, HasReplies}
pub use Rattle.ghcdb.specs.ProgramText.{FrontTells, TakesAtMost, most_read}
pub use Rattle.ghcdb.specs.Saving.{OpensAs, SavedSessionsOpenAgain}
pub use Rattle.ghcdb.specs.Sessions.{IsSessionOf, WhatOpensIsASession}
pub use Rattle.ghcdb.specs.Start.{AreRead, IsNoMemoryFor, IsOutOfMemory, IsStartRefusal, IsStarted, StartIsExact, for_program, for_query, of_calls, of_clauses, of_program, of_query, told_of}
pub use Rattle.ghcdb.specs.declared.refusal.Refusal.{Refusal}
pub use Rattle.ghcdb.specs.declared.start.Started.{Started}
pub use Rattle.std.proofs.Common.{Err, IfNone, IfSome, List, MatchResult, None, Ok, OnOk, Option, Result, Some, [], ap, append-nil, arith, codes, false, get_or, inl, inr, is_some, length, map, option_map, refl, rules, slice_get, slice_index, subst, subst₂, suc, sym, take, true, zero, ℕ, ◌++◌, ◌-◌, ◌<◌, ◌||◌, ◌↔◌, ◌∙◌, ◌∷◌, ◌≡◌, ◌≤◌, ◌⊎◌, ◌+◌, ◌≢◌, drop}
pub use Rattle.std.proofs.Crossing.{crosses}
pub use Rattle.std.proofs.KnownBytes.{Appends-kept, Consumes-trans, Consumes-whole}
pub use Rattle.std.proofs.Math.Seq.{take-length}
pub use Rattle.std.proofs.lemmas.Bool.{cases_lt}
pub use Rattle.std.proofs.lemmas.List.{length-take, length-take-le, places, take-append-le, take_all}
pub use Rattle.std.proofs.lemmas.List.Splits.{join_with_byte-slice_split}
pub use Rattle.std.proofs.lemmas.List.Elements.{All-get_or, All-nil}
pub use Rattle.std.proofs.lemmas.Map.Views.{Contains-from_any, list_any-from_Contains}
pub use Rattle.std.proofs.lemmas.Slice.Eq.{bytes_eq-Decides}
pub use Rattle.std.specs.Borrow.{Bor}
pub use Rattle.std.specs.Cmp.{Equal-is, eq_by_cmp_equiv}
pub use Rattle.std.specs.Io.KnownBytes.{Consumes, IsAtEnd, Keeps, append_known}
pub use Rattle.std.specs.List.{All, join_with_byte, list_any, slice_index_or}
pub use Rattle.std.specs.Option.{IsSome}
pub use Rattle.std.specs.Ordering.{eq_by_cmp}
pub use Rattle.std.specs.Prelude.{unwrap_or}
pub use Rattle.std.specs.Str.{bytes_eq}
pub use Rattle.std.specs.Str.Parse.{ExplainsUnsignedError, HasUnsignedDigitsIfOk, ParsesUnsigned}
