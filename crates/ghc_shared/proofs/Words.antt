-- The words of other crates and of the definitions that the proofs cite, from one place.
pub use Rattle.atomic_table.proofs.Lists.{at_set, at_snoc, exchanged, set_again}
pub use Rattle.atomic_table.specs.Table.{Allows, Joins, Me, Splits, keeps, opening, step}
pub use Rattle.ghc_core.proofs.CertainRefusals.{held_gone, holds_no_goal, note_refused_anyway}
pub use Rattle.ghc_core.proofs.Crosses.{core_send, core_sync}
pub use Rattle.ghc_core.proofs.Moving.{noted_answers, obeyed_answers}
pub use Rattle.ghc_core.proofs.Replying.{hand_commits, hand_gives_up}
pub use Rattle.ghc_core.specs.Answers.{Answers, Fails, fails, hands_after, no_memory}
pub use Rattle.ghc_core.specs.Anyway.{IsNotCommittedAnyway, IsRefusedAnyway}
pub use Rattle.ghc_core.specs.CommandCode.{command_of}
pub use Rattle.ghc_core.specs.Core.{Core, IsCommitted}
pub use Rattle.ghc_core.specs.Counting.{Counts}
pub use Rattle.ghc_core.specs.EventCode.{reply_of}
pub use Rattle.ghc_core.specs.Events.{command, commit, note, refused, stepped}
pub use Rattle.ghc_core.specs.HistoryLaws.{LeavesIsOne, LegalIsReachable}
pub use Rattle.ghc_core.specs.Legal.{Begins, IsAccepted, IsAnswered, IsTold, Leaves, Receipt, Shows, entry_count}
pub use Rattle.ghc_core.specs.Playing.{AddsWhatItTells, AnswersAddWhatTheyTell, tells_change}
pub use Rattle.ghc_core.specs.Proposes.{CommitFails}
pub use Rattle.ghc_core.specs.World.{Hands, IsHand, Proposal, World, emptied, no_hands}
pub use Rattle.ghc_core.specs.declared.command.Command.{Command}
pub use Rattle.ghc_core.specs.declared.reply.Reply.{Reply}
pub use Rattle.ghc_fire.specs.Meter.{fired}
pub use Rattle.ghc_fire.specs.declared.meter.Meter.{Meter}
pub use Rattle.ghc_records.specs.Journal.{Entry, Item, Opening, entered, history, opened}
pub use Rattle.ghc_records.specs.Record.{numbers}
pub use Rattle.ghc_shared.specs.inner.Calls.{IsAnswerTo, IsToldAnyway, IsToldOnFront, code_of, event_of, hands_of, holding, receipt_behind, receipt_of}
pub use Rattle.ghc_shared.specs.inner.Logs.{AddsOneIf, AllBy, ArePlacesBy, extended, items_of, opening_log}
pub use Rattle.ghc_shared.specs.Passes.{AreAll, IsKeeper, IsPass, Known, newcomers}
pub use Rattle.ghc_shared.specs.Places.{AreAllByTheirs, numbers_from, weight, weight_of_places}
pub use Rattle.ghc_shared.specs.Receipts.{AddsIfAccepted, IsAcceptedCall, IsDecided, IsRefusedCall}
pub use Rattle.ghc_shared.specs.Rule.{CatchesUp, Fits, IsOneLog, beside, front, keeper}
pub use Rattle.ghc_shared.specs.contracts.exclusive.Exclusive.new.{clauses, ended}
pub use Rattle.ghc_shared.specs.contracts.exclusive.Exclusive.new.Key.{name}
pub use Rattle.ghc_shared.specs.contracts.telling.CoreGrowing.TheImpl.{ghosts}
pub use Rattle.ghc_shared.specs.declared.calls.Call.{Call}
pub use Rattle.ghc_shared.specs.declared.exclusive.Exclusive.TheInside.{Inside}
pub use Rattle.ghc_shared.specs.declared.knowledge.Knowledge.{Knowledge}
pub use Rattle.ghc_term.specs.declared.fault.Fault.{Fault}
pub use Rattle.std.proofs.Common.{All, Bool, Err, List, MatchBool, None, Ok, Option, Result, Some, [], ap, append-nil, append_assoc, arith, cond, drop, eq-eqb, false, get_or, inl, inr, length, length-append, length-drop, map, ne_eqb, refl, set, slice_index, subst, subst₂, suc, sym, true, true≢false, vec_len, zero, ℕ, ⊎_elim, ◌++◌, ◌+◌, ◌-◌, ◌<◌, ◌==◌, ◌∙◌, ◌∷◌, ◌≡◌, ◌≢◌, ◌≤◌, ◌⊎◌}
pub use Rattle.std.proofs.Crossing.{crosses}
pub use Rattle.std.proofs.lemmas.Iterator.Adapters.{YieldsList-from_vec}
pub use Rattle.std.proofs.lemmas.Iterator.Consumers.{YieldsList-end}
pub use Rattle.std.proofs.lemmas.List.{map-append, map-id, with_items_is}
pub use Rattle.std.proofs.lemmas.List.Elements.{All-append, All-cons, All-nil}
pub use Rattle.std.proofs.raw_atomic.Walks.{leaves, proved_at}
pub use Rattle.std.specs.Cmp.{nat_cmp_total}
pub use Rattle.std.specs.List.Sorted.{IsStrictlyIncreasing}
pub use Rattle.std.specs.Vec.{vec_capacity}
pub use Rattle.std.specs.declared.snapshot.Snapshot.{Snapshot}
