-- The words of other crates and of the definitions that the proofs cite, from one place.
pub use Rattle.atomic_blocks.specs.Lent.{RowsId}
pub use Rattle.crossbeam_deque.proofs.Lists.{at_set, at_snoc}
pub use Rattle.crossbeam_deque.specs.Handles.{IsPassOf, stealer_deque, view, worker_deque, worker_flavor, worker_view}
pub use Rattle.crossbeam_deque.specs.Tasks.{Finds, Forks, Merges, Pushes}
pub use Rattle.ghc_core.proofs.Committing.{proposed_holds}
pub use Rattle.ghc_core.proofs.Histories.{leaves_once, legal_reachable, not_longer, reached_legal}
pub use Rattle.ghc_core.proofs.Moving.{reachable_reached}
pub use Rattle.ghc_core.proofs.Reaching.{reached_good}
pub use Rattle.ghc_core.proofs.Standing.{standing_below, standing_replay}
pub use Rattle.ghc_core.specs.Answers.{Answers, AsksFor}
pub use Rattle.ghc_core.specs.Change.{Changes}
pub use Rattle.ghc_core.specs.Core.{AreExactIn, Core, IsStanding}
pub use Rattle.ghc_core.specs.EventCode.{reply_of}
pub use Rattle.ghc_core.specs.Legal.{Begins, IsAnswered, IsReceipt, Leaves, Receipt, and_entry}
pub use Rattle.ghc_core.specs.Proposes.{AttemptAnswers, IsCommitOf, IsReduction, IsStepOf, StepFails, StillHolds}
pub use Rattle.ghc_core.specs.Settling.{AreKept, IsNoted}
pub use Rattle.ghc_core.specs.World.{Hands, HasRoom, IsFull, Proposal, World, no_hands, with_step}
pub use Rattle.ghc_core.specs.declared.changes.Change.{Change}
pub use Rattle.ghc_core.specs.declared.reply.Reply.{Reply}
pub use Rattle.ghc_depend.proofs.Finding.{own_made, same_value}
pub use Rattle.ghc_depend.proofs.Placing.{results_of}
pub use Rattle.ghc_depend.proofs.Results.{IsOld, Results, goal_by, is_old, of_query}
pub use Rattle.ghc_depend.specs.Depend.{Binds, Descends, MakesGoal, itself, made_by}
pub use Rattle.ghc_fire.proofs.Answering.{same_fault}
pub use Rattle.ghc_fire.proofs.GoalNames.{goal_antisymmetric, goal_total}
pub use Rattle.ghc_fire.proofs.Steps.{clause_once}
pub use Rattle.ghc_fire.proofs.Tries.{attempt_once}
pub use Rattle.ghc_fire.specs.Attempt.{Attempts, proposes, refused}
pub use Rattle.ghc_fire.specs.Effect.{Effect, HasEffect, no_step}
pub use Rattle.ghc_fire.specs.Goals.{Goals, goal_cmp}
pub use Rattle.ghc_fire.specs.declared.act.Act.{Act}
pub use Rattle.ghc_fire.specs.declared.act.Act.TheVariants.{ByClause}
pub use Rattle.ghc_flat.specs.Clause.{Clause, IsClause, IsFor, Program}
pub use Rattle.ghc_flat.specs.Flat.{is_stream}
pub use Rattle.ghc_hooks.proofs.Fitting.{put_elsewhere, put_here}
pub use Rattle.ghc_hooks.proofs.Looking.{goal_cases, one_less}
pub use Rattle.ghc_hooks.proofs.LookingAll.{so_far}
pub use Rattle.ghc_hooks.proofs.Statuses.{status_once}
pub use Rattle.ghc_hooks.specs.Face.{GoalNames}
pub use Rattle.ghc_hooks.specs.NotedFace.{IsNotedAs}
pub use Rattle.ghc_hooks.specs.Notes.{AreLeft, IsUntried, Note, NotesByGoal}
pub use Rattle.ghc_hooks.specs.Status.{HasStatus, Status, failed, is_failed, is_stream_goal, ready, streaming, waiting}
pub use Rattle.ghc_hooks.specs.Verdict.{status_of}
pub use Rattle.ghc_pool.specs.inner.Answers.{IsReason, Taken, one_if, submits_in}
pub use Rattle.ghc_pool.specs.inner.Fair.{Balanced, IdleIsEmpty, all_parts, hand, most_permits, total, weigh}
pub use Rattle.ghc_pool.specs.inner.Gathered.{AreDrained, AreDrainedTo, ArePending, AreReady, AreReleased, AreTold, FirstBegins, HaveGivenBack, HaveParts, HavePartsFrom, IsAbsorbed, IsDrained, IsPending, IsReady, all_victims, own_deques}
pub use Rattle.ghc_pool.specs.Laws.{AddsAtTheEnd, RunsAddAtTheEnd, RunsReduce}
pub use Rattle.ghc_pool.specs.inner.Meeting.{HasStepped, IsMet, IsNotedReady, IsNotedWaiting, TookInQuestion, WasTaken, WasTried}
pub use Rattle.ghc_pool.specs.Modes.{root_of}
pub use Rattle.ghc_pool.specs.inner.Opened.{AreCounted, AreFresh, AreFreshFrom, AreHandfuls, AreJobs, AreNew, AreStarting, HasGone, HasWorked, IsCounted, IsFresh, IsHandful, IsJob, IsStarting, Owner, Works, deques_of, passes_in, workers_in}
pub use Rattle.ghc_pool.specs.inner.Plans.{GoesOnWithout, IsDecidedAs, IsNoteStop, IsSettlingStop, IsSubmitStop}
pub use Rattle.ghc_pool.specs.Runs.{AsksForNoStop, CanGoOn, HasFailed, HasMetNoFailure, Holds, IsInQuestion, IsNotedFailed, IsRunStep, IsSpiedIn, Runs, RunsIn, Takes, all_taken, and_step, and_tries, at_start, has_failed, is_full, is_quiet, is_spied, starved}
pub use Rattle.ghc_pool.specs.inner.Stops.{AreFed, AreJudged, AreOpen, AreWell, GoesOn, IsJudged, IsOpen, IsSpent, IsWell, OneAsks, WentOn, joined}
pub use Rattle.ghc_pool.specs.inner.Stretches.{TakesAtMost}
pub use Rattle.ghc_pool.specs.inner.Survey.{AreLast, AreThose}
pub use Rattle.ghc_pool.specs.inner.Told.{AreAnswers, AreFedAnswers, Asks, Covers, IsAnswerOf, IsAskedBy, IsInScope, IsNotedFor, IsPassAfter, IsSpiedGoal, IsStarved, IsStarvedGoal, IsUnspiedStep, StandsIn, after_submits, places_if, places_in, step_places, submits_since}
pub use Rattle.ghc_pool.specs.inner.Workers.{AreVictims, DidNothing, HasRoomToAnswer, HasRoomToOffer, IsAble, IsOfferedOrStopped, IsRoomier, IsVictim, Keeps, KeepsRoom, Work, deques, got_of, in_of, left_in, names, offered_in, out_of, over, put_of, stolen, stolen_of, submits, submits_by, submits_of, taken_in, total_work, work_of, works}
pub use Rattle.ghc_pool.specs.declared.answer.Answer.{Answer}
pub use Rattle.ghc_pool.specs.declared.answer.Answer.TheVariants.{Noted, Starved, Submitted}
pub use Rattle.ghc_pool.specs.declared.answer.RoundStop.{RoundStop}
pub use Rattle.ghc_pool.specs.declared.answer.RoundStop.TheVariants.{Clash, Full, Limit, Memory, Spied}
pub use Rattle.ghc_pool.specs.declared.craft.Decided.{Decided}
pub use Rattle.ghc_pool.specs.declared.runs.meet.Met.{Met}
pub use Rattle.ghc_pool.specs.declared.runs.meet.Met.TheVariants.{Passed, Stepped}
pub use Rattle.ghc_pool.specs.declared.mode.Mode.{Mode}
pub use Rattle.ghc_pool.specs.declared.rounds.rule.Hand.{Hand}
pub use Rattle.ghc_pool.specs.declared.rounds.victim.Victim.{Victim}
pub use Rattle.ghc_pool.specs.declared.rounds.worker.Worker.{Worker}
pub use Rattle.ghc_pool.specs.declared.rounds.working.Job.{Job}
pub use Rattle.ghc_pool.specs.declared.scope.Scope.{Scope}
pub use Rattle.ghc_pool.specs.declared.scope.Scope.TheVariants.{Any, Of}
pub use Rattle.ghc_pool.specs.declared.stop.Stop.{Stop}
pub use Rattle.ghc_records.specs.Journal.{Entry, Item, Opening, entered, history, step_of, took}
pub use Rattle.ghc_records.specs.Record.{Record}
pub use Rattle.ghc_records.specs.inner.RecordCode.{opening_code}
pub use Rattle.ghc_shared.proofs.CoreCrosses.{core_pass_send, shared_core_sync}
pub use Rattle.ghc_shared.proofs.PlacesOnce.{weight-one}
pub use Rattle.ghc_shared.specs.inner.Calls.{IsAnswerTo, IsProposal, code_of, holding, receipt_of}
pub use Rattle.ghc_shared.specs.Passes.{AreAll, Known, newcomers}
pub use Rattle.ghc_shared.specs.Places.{AreEachOnce, numbers_from, places_since, weight, weight_of_places}
pub use Rattle.ghc_shared.specs.Receipts.{IsAcceptedCall, IsDecided, IsRefusedCall}
pub use Rattle.ghc_shared.specs.contracts.telling.CoreGrowing.TheImpl.{ghosts}
pub use Rattle.ghc_shared.specs.declared.calls.Call.{Call}
pub use Rattle.ghc_shared.specs.declared.calls.Call.TheVariants.{Submit}
pub use Rattle.ghc_term.proofs.ListsLemmas.{contains_in, in_contains, in_either, in_last, in_left, in_more, in_right, not_both}
pub use Rattle.ghc_term.specs.Bindings.{IsAcyclic}
pub use Rattle.ghc_term.specs.Goal.{Goal, assign, call, stream, unify}
pub use Rattle.ghc_term.specs.Lists.{In}
pub use Rattle.ghc_term.specs.Sets.{Variables}
pub use Rattle.ghc_term.specs.Store.{value_at}
pub use Rattle.ghc_term.specs.Tree.{Tree}
pub use Rattle.ghc_term.specs.declared.fault.Fault.{Fault}
pub use Rattle.ghc_term.specs.declared.goal_name.GoalName.{GoalName}
pub use Rattle.ghc_term.specs.declared.var_name.VarName.{VarName}
pub use Rattle.ghc_trace.specs.News.{Stands}
pub use Rattle.ghc_trace.specs.Spies.{HasPredicate, IsSpied, Spies, predicate, predicate_cmp}
pub use Rattle.std.proofs.Common.{All, Bool, Err, IsTrue, List, MatchBool, None, Ok, Option, Some, [], ap, append-nil, append_assoc, arith, cond, drop, eq-eqb, false, get_or, inl, inr, length, length-append, map, ne_eqb, refl, reverse, set, subst, subst₂, suc, sym, take, true, zero, ℕ, ⊎_elim, ◌++◌, ◌+◌, ◌-◌, ◌<◌, ◌==◌, ◌↔◌, ◌∙◌, ◌∷◌, ◌≡◌, ◌≢◌, ◌≤◌, ◌⊎◌}
pub use Rattle.std.proofs.Crossing.{crosses}
pub use Rattle.std.proofs.Math.Dec.{eqb}
pub use Rattle.std.proofs.lemmas.Bool.{eqb-false, eqb-true}
pub use Rattle.std.proofs.lemmas.List.{length-reverse, map-append, reverse-append, take-append-drop, take_all, with_items_is}
pub use Rattle.std.proofs.lemmas.List.Elements.{All-contains, All-head, All-nil, All-tail, Contains-get_or}
pub use Rattle.std.proofs.lemmas.List.Sorted.{Contains-permutation, IsPermutation-sym}
pub use Rattle.std.proofs.lemmas.Map.Views.{All-insert_key, btree_set_contains_iff}
pub use Rattle.std.specs.BTreeSet.{BTreeSet, contains}
pub use Rattle.std.specs.Cmp.{nat_cmp_total}
pub use Rattle.std.specs.Global.{Vec}
pub use Rattle.std.specs.Vec.{vec_capacity, vec_len, with_item}
pub use Rattle.std.specs.declared.alloc.Global.{Global}
