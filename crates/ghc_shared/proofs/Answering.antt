-- What a call does to the history of a core.
use Rattle.ghc_shared.proofs.Words.{◌≡◌, ◌⊎◌, ◌++◌, ◌∙◌, ℕ, [], ◌∷◌, refl, sym, ap, subst, subst₂, inl, inr, Some, None, Result, Ok, Err, Bool, true, false, arith, MatchBool, nat_cmp_total, Fault, Entry, entered, history, Proposal, Hands, no_hands, IsHand, emptied, World, IsCommitted, command_of, commit, command, stepped, refused, CommitFails, Fails, hands_after, Counts, Meter, fired, Answers, fails, no_memory, IsNotCommittedAnyway, holds_no_goal, held_gone, hand_commits, hand_gives_up, Leaves, tells_change, AddsWhatItTells, AnswersAddWhatTheyTell, reply_of, Reply, Command, Call, AddsIfAccepted, holding, hands_of, event_of, IsToldAnyway, IsAnswerTo}
use Rattle.std.specs.Prelude.{OnOk, OnErr}
use Rattle.std.specs.FinMap as finite
use Rattle.ghc_term.specs.Answered.{Answered}
use Rattle.ghc_hooks.specs.Notes.{AreLeft}
use Rattle.ghc_records.specs.Record.{Record}
use Rattle.ghc_records.specs.inner.RecordCode.{opening_code}
use Rattle.ghc_depend.specs.Depend.{Binds}
use Rattle.ghc_core.specs.Core.{Core, Stays}
use Rattle.ghc_core.specs.Proposes.{IsCommitOf, WasProposed}
use Rattle.ghc_core.specs.World.{with_step}
use Rattle.ghc_core.specs.declared.changes.Change.TheVariants.{Comes as comes}
use Rattle.ghc_core.specs.declared.changes.Coming.{Coming}
use Rattle.ghc_shared.specs.declared.calls.Call.TheVariants.{Submit, SubmitProposed}
use Rattle.ghc_shared.specs.inner.Calls.{IsCallMade, TellsCommit, TellsNoCommit, WasProposedUnder, code_of}
use Rattle.ghc_term.specs.Goal.{Goal}
use Rattle.ghc_core.proofs.Histories.{history_push}

-- `Memory` is an answer to each call
pub starved : (w : World) (call : Call) → (left : Hands) × Answers (Unit {0}) w (hands_of call) (event_of call) (refused Fault.Memory) w left
starved w call = (hands_after (event_of call) (hands_of call), no_memory tt)

-- the hand holds the proposal
held_there : (p : Proposal) → finite.get (holding p).held 1 ≡ Some p
held_there p = finite.get-insert nat_cmp_total finite.empty 1 p 1

one_hand : (p : Proposal) → IsHand (holding p) 1
one_hand p = (omega arith, omega arith)

-- a submit fires once, since the hand holds the proposal
pub submit_counts : (w : World) (p : Proposal) (m n : Meter) → n ≡ fired m → Counts w (holding p) (commit 1) m n
submit_counts w p m n once = (λ _. once, λ none. absurd (none (one_hand p, (p, held_there p))))

-- the hand commits what it holds
pub commits : (w v : World) (p : Proposal) (n : ℕ) → IsCommitted w p v n → Answers (Unit {0}) w (holding p) (commit 1) (stepped n) v (emptied 1 (holding p))
commits w v p n committed = hand_commits w (holding p) 1 (one_hand p) p n v (emptied 1 (holding p)) (held_there p) committed refl

-- or the commit is refused
pub gives_up : (w v : World) (p : Proposal) (f : Fault) → (f ≡ Fault.Memory) ⊎ CommitFails w p f → v ≡ w → Answers (Unit {0}) w (holding p) (commit 1) (refused f) v (emptied 1 (holding p))
gives_up w v p f why stays = hand_gives_up w (holding p) 1 (one_hand p) p f v (emptied 1 (holding p)) (held_there p) why stays refl

-- a command is refused
pub not_obeyed : (w : World) (c : Command) (f : Fault) → (f ≡ Fault.Memory) ⊎ Fails w (command_of c) f → Answers (Unit {0}) w no_hands (command (command_of c)) (refused f) w no_hands
not_obeyed w c f (inl starves) = subst (λ (x : Fault). Answers (Unit {0}) w no_hands (command (command_of c)) (refused x) w no_hands) (sym starves) (no_memory tt)
not_obeyed w c f (inr why) = fails tt why

-- the commit is refused whatever memory is left where its goal is gone, and for nothing else
gone_alone : (w : World) (p : Proposal) (f : Fault) → IsNotCommittedAnyway w (holding p) 1 f → (f ≡ Fault.Stale) × (finite.get w.state.goals p.goal ≡ None)
gone_alone w p f why = let is = holds_no_goal w (holding p) 1 (one_hand p) why in (is.0, held_gone w (holding p) 1 p (held_there p) is.1)

-- the commit of a proposal whose goal is there is not refused whatever memory is left
pub there_is_told : (w : World) (p : Proposal) (b : Goal) (f : Fault) → finite.get w.state.goals p.goal ≡ Some b → ¬ IsNotCommittedAnyway w (holding p) 1 f
there_is_told w p b f there anyway = let none = (gone_alone w p f anyway).1 in cc

pub told_gone : {X : Type 0} (w : World) (p : Proposal) (result : Result X Fault) (f : Fault) → (finite.get w.state.goals p.goal ≡ None → result ≡ Err Fault.Stale) → IsNotCommittedAnyway w (holding p) 1 f → result ≡ Err f
told_gone w p result f said anyway = let is = gone_alone w p f anyway in said is.1 ∙ ap (λ (x : Fault). Err x) (sym is.0)

-- what a commit of the proposal answered in the core old, which is the core new after it
pub record AnswersCommit (old : Core) (p : Proposal) (result : Result ℕ Fault) (new : Core) : Type 0 where
  pub answer : Answered (IsCommitted old.world p new.world) (CommitFails old.world p) result
  pub gone : finite.get old.world.state.goals p.goal ≡ None → result ≡ Err Fault.Stale
  pub stays : OnErr result (Stays old new)
  pub counted : new.meter ≡ fired old.meter
  pub notes : OnOk result ((r : Record) × IsCommitOf old.world p r × (new.world ≡ with_step r old.world) × AreLeft new.world.state.goals (Binds r) old.notes new.notes)

-- it is told as a submit
pub commit_told : (old : Core) (p : Proposal) (answer : Result ℕ Fault) (reply : Reply) (new : Core) → TellsCommit answer reply → AnswersCommit old p answer new → IsCallMade old (Submit p) reply new
commit_told old p (Ok n) reply new tells c =
    let moved = c.notes in
    record {
      answer = (emptied 1 (holding p), rw tells (commits old.world new.world p n c.answer.0));
      anyway = λ f fails. let said = told_gone old.world p (Ok n) f c.gone fails in cc;
      does = record {
        carries = inr (record { change = comes Coming.Next moved.0; possible = moved.1.1; changed = moved.2; notes = moved.3 });
        stays = λ r. let clash = tells in let other = r.1 in cc;
        counts = submit_counts old.world p _ _ c.counted;
      };
    }
commit_told old p (Err f) reply new tells c = record {
  answer = (emptied 1 (holding p), rw tells (gives_up old.world new.world p f c.answer.1 c.stays.world));
  anyway = λ g fails. let said = told_gone old.world p (Err f) g c.gone fails in cc;
  does = record { carries = inl (f, tells); stays = λ _. c.stays; counts = submit_counts old.world p _ _ c.counted };
}

-- where there is no room, a commit that was only prepared is told as a submit
pub no_commit_told : {A : Type 0} (Gives : A → Type 0) (old : Core) (p : Proposal) (found : Result A Fault) (reply : Reply) (new : Core) → TellsNoCommit found reply → Answered Gives (CommitFails old.world p) found
    → (finite.get old.world.state.goals p.goal ≡ None → found ≡ Err Fault.Stale) → Stays old new → new.meter ≡ fired old.meter → IsCallMade old (Submit p) reply new
no_commit_told Gives old p (Ok a) reply new tells answer gone stays counted = record {
  answer = (emptied 1 (holding p), rw tells (gives_up old.world new.world p Fault.Memory (inl refl) stays.world));
  anyway = λ f fails. let said = told_gone old.world p (Ok a) f gone fails in cc;
  does = record { carries = inl (Fault.Memory, tells); stays = λ _. stays; counts = submit_counts old.world p _ _ counted };
}
no_commit_told Gives old p (Err f) reply new tells answer gone stays counted = record {
  answer = (emptied 1 (holding p), rw tells (gives_up old.world new.world p f answer.1 stays.world));
  anyway = λ g fails. let said = told_gone old.world p (Err f) g gone fails in cc;
  does = record { carries = inl (f, tells); stays = λ _. stays; counts = submit_counts old.world p _ _ counted };
}

-- what was proposed under the opening of a core was proposed in a world of that opening
pub proposed_there : (w : World) (p : Proposal) → WasProposedUnder (code_of w.opening) p → WasProposed w p
proposed_there w p (v, choice, same, proposed) = (v, choice, opening_code.inj v.opening w.opening same, proposed)

-- a submit of what was proposed is made as each submit is
pub made_as_proposed : (old : Core) (p : Proposal) (reply : Reply) (new : Core) → IsCallMade old (Submit p) reply new → IsCallMade old (SubmitProposed p) reply new
made_as_proposed old p reply new m = record { answer = m.answer; anyway = m.anyway; does = record { carries = m.does.carries; stays = m.does.stays; counts = m.does.counts } }

-- a call was accepted where its reply tells of a change, and adds its entry then
pub called : AnswersAddWhatTheyTell → (w v : World) (call : Call) (reply : Reply) (left : Hands) (accepted : Bool) → accepted ≡ tells_change (reply_of reply) → Leaves (history w.opening w.journal) w
    → Answers (Unit {0}) w (hands_of call) (event_of call) (reply_of reply) v left → IsToldAnyway w call reply
    → AddsIfAccepted IsAnswerTo accepted (history w.opening w.journal) (history v.opening v.journal) call reply
called law w v call reply left accepted is legal answer anyway =
    subst (λ b. AddsIfAccepted IsAnswerTo b (history w.opening w.journal) (history v.opening v.journal) call reply) (sym is) (told (tells_change (reply_of reply)) does.1)
  where
    does : AddsWhatItTells w (hands_of call) (event_of call) (reply_of reply) v left
    does = law w v (hands_of call) left (event_of call) (reply_of reply) answer

    told : (b : Bool) → MatchBool b ((entry : Entry) × Answers ⊥ w (hands_of call) (event_of call) (reply_of reply) v left × (v.journal ≡ w.journal ++ entry ∷ [])) (v.journal ≡ w.journal)
        → AddsIfAccepted IsAnswerTo b (history w.opening w.journal) (history v.opening v.journal) call reply
    told true d = (
      entered d.0,
      subst₂ (λ o es. history o es ≡ history w.opening w.journal ++ entered d.0 ∷ []) (sym does.0) (sym d.2) (history_push w.opening w.journal d.0),
      (d.0, refl, record { before = w; after = v; left = left; legal = legal; place = refl; answer = d.1; adds = d.2 }),
    )
    told false d = (
      subst₂ (λ o es. history o es ≡ history w.opening w.journal) (sym does.0) (sym d) refl,
      record { told = record { before = w; after = v; left = left; legal = legal; place = refl; answer = answer; adds_nothing = d }; anyway = anyway },
    )
