-- What holds of a pass, when the pass goes on.
use Rattle.ghc_pool.proofs.Words.{◌≡◌, ◌≤◌, ◌<◌, ◌+◌, ◌++◌, ◌∙◌, ℕ, zero, suc, List, [], ◌∷◌, length, drop, Bool, true, false, Option, Some, None, Ok, refl, sym, ap, subst, inl, inr, arith, append-nil, append_assoc, length-append, MatchBool, in_left, in_more, in_last, GoalName, Goal, Fault, Entry, Item, entered, Status, Proposal, Hands, World, no_hands, Answers, Begins, Receipt, IsReceipt, IsAnswered, Reply, Call, Submit, Known, AreAll, IsAcceptedCall, IsRefusedCall, IsDecided, holding, receipt_of, IsProposal, IsAnswerTo, Spies, IsSpied, Answer, Submitted, Noted, Starved, RoundStop, Memory, Limit, Full, Spied, Clash, Scope, Worker, Taken, one_if, submits_in, IsReason, Work, work_of, works, submits, total_work, submits_by, AreTold, IsSpiedIn, IsSubmitStop, IsSettlingStop, IsNoteStop, GoesOnWithout, IsDecidedAs, IsInScope, StandsIn, IsSpiedGoal, IsStarvedGoal, IsUnspiedStep, IsNotedFor, IsAnswerOf, AreAnswers, places_if, places_in, step_places, after_submits, IsPassAfter, submits_since, IsStarved, AreFedAnswers, IsAskedBy, Asks}
use base.Stored.{Gv}
use Rattle.std.specs.Global.{Vec}
use mathlib.Core.List.{IsPrefix}
use lib.ListN.{get_or}
use Rattle.ghc_core.specs.Events as events
use Rattle.ghc_core.specs.Answers.{by_hand}
use Rattle.ghc_core.specs.EventCode.{reply_of}
use Rattle.ghc_core.specs.Playing.{IsRefusal}
use Rattle.ghc_records.specs.Journal.{took, step_of}
use Rattle.ghc_shared.specs.declared.receipt.Receipt as given
use Rattle.ghc_shared.specs.inner.Calls.{ListsWoken}
use Rattle.ghc_term.specs.Lists.{In}
use Rattle.ghc_pool.specs.inner.Plans.{AreWokenOf, TellsStep, made_if_stepped}
use Rattle.ghc_core.specs.declared.reply.Reply.TheVariants.{Held, Stepped, Undone, Arranged, Refused}
use Rattle.ghc_shared.specs.declared.calls.Call.TheVariants.{Note}
use Rattle.ghc_fire.specs.Meter.{one_more}
use Rattle.std.proofs.Math.Nat.{min-le_left}
use Rattle.ghc_pool.proofs.Stealing.{submits-append}

-- an answer is a receipt in what is known now
pub receipt_of_answer : (Starved : Type 0) (old new : List Item) (hands : Hands) (e : events.Event) (r : Receipt) → IsAnswered Starved old new hands e r → IsReceipt Starved new hands e r
receipt_of_answer S old new hands e r (IsAnswered.accepted front entry is begins same) = IsReceipt.accepted front entry is ([], same ∙ sym (append-nil (front ++ entered entry ∷ [])))
receipt_of_answer S old new hands e r (IsAnswered.told is begins) = IsReceipt.told new is ([], sym (append-nil new))

begins_after : (front items longer : List Item) → Begins front items → IsPrefix items longer → Begins front longer
begins_after front items longer b p = (b.0 ++ p.0, sym p.1 ∙ ap (λ l. l ++ p.0) b.1 ∙ append_assoc front b.0 p.0)

-- a receipt stays one when more is known
pub receipt_later : (Starved : Type 0) (items longer : List Item) (hands : Hands) (e : events.Event) (r : Receipt) → IsPrefix items longer → IsReceipt Starved items hands e r → IsReceipt Starved longer hands e r
receipt_later S items longer hands e r p (IsReceipt.accepted front entry is begins) = IsReceipt.accepted front entry is (begins_after (front ++ entered entry ∷ []) items longer begins p)
receipt_later S items longer hands e r p (IsReceipt.told front is begins) = IsReceipt.told front is (begins_after front items longer begins p)

-- what stands there stays where more is known
pub stands_later : (items longer : List Item) (p : Proposal) (r : given.Receipt Reply) → IsPrefix items longer → StandsIn items p r → StandsIn longer p r
stands_later items longer p r more s = record {
  before = s.before;
  entry = s.entry;
  place = s.place;
  accepted = s.accepted;
  begins = begins_after (s.before ++ entered s.entry ∷ []) items longer s.begins more;
}

pub prefix_longer : (xs ys : List Item) → IsPrefix xs ys → length xs ≤ length ys
prefix_longer xs ys p = omega (arith, ap (λ l. length l) p.1, length-append xs p.0)

pub prefix_chain : (xs ys zs : List Item) → IsPrefix xs ys → IsPrefix ys zs → IsPrefix xs zs
prefix_chain xs ys zs p q = (p.0 ++ q.0, sym (append_assoc xs p.0 q.0) ∙ ap (λ l. l ++ q.0) p.1 ∙ q.1)

step_places_append : (taken : List Taken) (x : Taken) → step_places (taken ++ x ∷ []) ≡ step_places taken ++ places_in x.1
step_places_append [] x = append-nil (places_in x.1)
step_places_append (y ∷ taken) x = ap (λ l. places_in y.1 ++ l) (step_places_append taken x) ∙ sym (append_assoc (places_in y.1) (step_places taken) (places_in x.1))

after_more : (m k n : ℕ) → after_submits (m + k) n ≡ after_submits k (after_submits m n)
after_more m zero n =
    let same : m + zero ≡ m = omega arith in
    ap (λ t. after_submits t n) same
after_more m (suc k) n =
    let same : m + suc k ≡ suc (m + k) = omega arith in
    ap (λ t. after_submits t n) same ∙ ap one_more (after_more m k n)

module _ (opened : Gv) (scope : Scope) (spies : Spies) (steps : Bool) where
  answer_later : (base front longer : List Item) (g : GoalName) (a : Answer) → IsPrefix front longer → IsAnswerOf opened scope spies steps base front g a → IsAnswerOf opened scope spies steps base longer g a
  answer_later base front longer g (Submitted r) p is = (is.0, is.1, is.2, receipt_later _ front longer _ _ _ p is.3, is.4, (λ yes. stands_later front longer is.0 r p (is.5 yes)), is.6)
  answer_later base front longer g (Noted r) p is = (receipt_later _ front longer _ _ _ p is.0, is.1, is.2)
  answer_later base front longer g Starved p is = is

  answers_later : (base front longer : List Item) (taken : List Taken) → IsPrefix front longer → AreAnswers opened scope spies steps base front taken → AreAnswers opened scope spies steps base longer taken
  answers_later base front longer [] p all = tt
  answers_later base front longer (x ∷ taken) p all = (answer_later base front longer x.0 x.1 p all.0, answers_later base front longer taken p all.1)

  answers_more : (base front : List Item) (taken : List Taken) (x : Taken) → AreAnswers opened scope spies steps base front taken → IsAnswerOf opened scope spies steps base front x.0 x.1 → AreAnswers opened scope spies steps base front (taken ++ x ∷ [])
  answers_more base front [] x all is = (is, tt)
  answers_more base front (y ∷ taken) x all is = (all.0, answers_more base front taken x all.1 is)

  -- a pass goes on, and has no more places, and made no submit
  pub told_later : (old new : Known Item) → new.number ≡ old.number → IsPrefix old.front new.front → new.places ≡ old.places → new.submits ≡ old.submits
      → (start : Known Item) (taken : List Taken) → IsPassAfter opened scope spies steps start taken old → IsPassAfter opened scope spies steps start taken new
  told_later old new number begins places none start taken was = record {
    number = number ∙ was.number;
    begins = prefix_chain start.front old.front new.front was.begins begins;
    answers = answers_later start.front old.front new.front taken begins was.answers;
    places = places ∙ was.places;
    submits = none ∙ was.submits;
  }

  -- a pass goes on with one answer more
  pub told_more : (old new : Known Item) (g : GoalName) (a : Answer) → new.number ≡ old.number → IsPrefix old.front new.front → new.places ≡ old.places ++ places_in a → new.submits ≡ after_submits (submits_in a) old.submits
      → ((base : List Item) → length base ≤ length old.front → IsAnswerOf opened scope spies steps base new.front g a)
      → (start : Known Item) (taken : List Taken) → IsPassAfter opened scope spies steps start taken old → IsPassAfter opened scope spies steps start (taken ++ (g, a) ∷ []) new
  told_more old new g a number begins places made is start taken was = record {
    number = number ∙ was.number;
    begins = prefix_chain start.front old.front new.front was.begins begins;
    answers = answers_more start.front new.front taken (g, a) (answers_later start.front old.front new.front taken begins was.answers) (is start.front (prefix_longer start.front old.front was.begins));
    places = places ∙ ap (λ l. l ++ places_in a) was.places ∙ append_assoc start.places (step_places taken) (places_in a) ∙ ap (λ l. start.places ++ l) (sym (step_places_append taken (g, a)));
    submits = made ∙ ap (λ n. after_submits (submits_in a) n) was.submits ∙ sym (after_more (submits taken) (submits_in a) start.submits) ∙ ap (λ k. after_submits k start.submits) (sym (submits-append taken (g, a)));
  }

-- the receipt's place comes after what had been seen
pub behind : (before : List Item) (call : Call) (r : given.Receipt Reply) (old new : Known Item) → IsDecided IsAnswerTo before call r old new → (base : List Item) → length base ≤ length old.front → length base ≤ r.place
behind before call r old new d base low = omega (arith, low, prefix_longer old.front before d.seen, d.place)

-- a step has its place
pub submit_places : (before : List Item) (call : Call) (r : given.Receipt Reply) (old new : Known Item) → IsDecided IsAnswerTo before call r old new → new.places ≡ old.places ++ places_in (Submitted r)
submit_places before call r old new d = told r.accepted d.decided
  where
    told : (b : Bool) → MatchBool b (IsAcceptedCall IsAnswerTo before call r.reply r.place old new) (IsRefusedCall IsAnswerTo before call r.reply old new) → new.places ≡ old.places ++ places_if b r.place
    told true a = a.places
    told false a = a.places ∙ sym (append-nil old.places)

-- a submit that was accepted stands in the front
pub submit_stands : (before : List Item) (p : Proposal) (r : given.Receipt Reply) (old new : Known Item) → IsDecided IsAnswerTo before (Submit p) r old new → r.accepted ≡ true → StandsIn new.front p r
submit_stands before p r old new d told =
    let a : IsAcceptedCall IsAnswerTo before (Submit p) r.reply r.place old new = rw told at d.decided in
    let is = a.answer in record {
      before = before;
      entry = is.0;
      place = d.place;
      accepted = is.2;
      begins = ([], a.front ∙ ap (λ (i : Item). before ++ i ∷ []) is.1 ∙ sym (append-nil (before ++ entered is.0 ∷ [])));
    }

-- a note changes nothing
note_stays : (w v : World) (g : GoalName) (reply : events.Reply) (left : Hands) → Answers ⊥ w no_hands (events.note g) reply v left → v ≡ w
note_stays w v g reply left (Answers.no_hand n) = refl
note_stays w v g reply left (Answers.makes hand asks can changes told) = elim asks [ ]
note_stays w v g reply left (Answers.says hand says) = refl
note_stays w v g reply left (Answers.fails hand why) = refl
note_stays w v g reply left (Answers.no_memory s) = refl

longer_by_one : (xs : List Entry) (e : Entry) → xs ≡ xs ++ e ∷ [] → ⊥
longer_by_one xs e same = omega (arith, ap (λ l. length l) same, length-append xs (e ∷ []))

-- a commit that adds no entry is refused
commit_refused : (w v : World) (hands : Hands) (h : ℕ) (reply : events.Reply) (left : Hands) → Answers (Unit {0}) w hands (events.commit h) reply v left → v.journal ≡ w.journal → IsRefusal reply
commit_refused w v hands h reply left (Answers.no_hand n) same = (Fault.Command, refl)
commit_refused w v hands h reply left (Answers.makes hand (by_hand {r = r} there is) can changes told) same =
    absurd (longer_by_one w.journal (took (step_of r)) (sym same ∙ ap (λ (u : World). u.journal) changes))
commit_refused w v hands h reply left (Answers.says hand s) same = elim s [ ]
commit_refused w v hands h reply left (Answers.fails {f = f} hand why) same = (f, refl)
commit_refused w v hands h reply left (Answers.no_memory s) same = (Fault.Memory, refl)

stepped_refused : (n : ℕ) (f : Fault) → events.stepped n ≡ events.refused f → ⊥
stepped_refused n f e = cc

-- a submit that was not accepted is refused
submit_refused : (before : List Item) (p : Proposal) (r : given.Receipt Reply) (old new : Known Item) → IsDecided IsAnswerTo before (Submit p) r old new → r.accepted ≡ false → IsRefusal (reply_of r.reply)
submit_refused before p r old new d told =
    let a : IsRefusedCall IsAnswerTo before (Submit p) r.reply old new = rw told at d.decided in
    let is = a.answer.told in
    commit_refused is.before is.after (holding p) 1 (reply_of r.reply) is.left is.answer is.adds_nothing

-- as many goals are made, where they are as many wherever the submit was accepted
pub same_made : (before : List Item) (p : Proposal) (r : given.Receipt Reply) (old new : Known Item) → IsDecided IsAnswerTo before (Submit p) r old new → (made count : ℕ) → (r.accepted ≡ true → made ≡ count)
    → made_if_stepped r.reply made ≡ made_if_stepped r.reply count
same_made before p r old new d made count same = told r.reply refl
  where
    accepted : (n : ℕ) → r.reply ≡ Stepped n → (b : Bool) → r.accepted ≡ b → made ≡ count
    accepted n e true a = same a
    accepted n e false a =
        let refused = submit_refused before p r old new d a in
        absurd (stepped_refused n refused.0 (sym (ap reply_of e) ∙ refused.1))

    told : (reply : Reply) → r.reply ≡ reply → made_if_stepped reply made ≡ made_if_stepped reply count
    told (Held h) e = refl
    told (Stepped n) e = accepted n e r.accepted refl
    told (Reply.Noted g verdict) e = refl
    told (Undone ns) e = refl
    told Arranged e = refl
    told (Refused f) e = refl

-- a note has no place
pub note_places : (before : List Item) (g : GoalName) (r : given.Receipt Reply) (old new : Known Item) → IsDecided IsAnswerTo before (Note g) r old new → new.places ≡ old.places
note_places before g r old new d = told r.accepted d.decided
  where
    told : (b : Bool) → MatchBool b (IsAcceptedCall IsAnswerTo before (Note g) r.reply r.place old new) (IsRefusedCall IsAnswerTo before (Note g) r.reply old new) → new.places ≡ old.places
    told true a =
        let is = a.answer.2 in
        absurd (longer_by_one is.before.journal a.answer.0 (ap (λ (u : World). u.journal) (sym (note_stays is.before is.after g _ is.left is.answer)) ∙ is.adds))
    told false a = a.places

-- what one of the answers is a reason for is one still when there are more
pub asks_still : (opened : Gv) (spies : Spies) (steps : Bool) (taken : List Taken) (x : Taken) (stop : RoundStop) → Asks opened spies steps taken stop → Asks opened spies steps (taken ++ x ∷ []) stop
asks_still opened spies steps taken x stop a = (a.0, (a.1.0, in_left taken (x ∷ []) a.1.0 a.1.1, a.1.2))

-- the reason of one answer is that of all
pub reason_after : (opened : Gv) (spies : Spies) (steps : Bool) (x : Taken) (stop : Option RoundStop) → IsReason AreFedAnswers (Asks opened spies steps) stop (x ∷ [])
    → (taken : List Taken) → AreFedAnswers taken → IsReason AreFedAnswers (Asks opened spies steps) stop (taken ++ x ∷ [])
reason_after opened spies steps x stop is taken fed = told stop is
  where
    all : AreFedAnswers (x ∷ []) → AreFedAnswers (taken ++ x ∷ [])
    all one y i = elim (in_more taken x y i) [ inl j ↦ fed y j | inr e ↦ one y (inl e) ]

    asked : (s : RoundStop) → Asks opened spies steps (x ∷ []) s → Asks opened spies steps (taken ++ x ∷ []) s
    asked s a = (a.0, (x, in_last taken x, elim a.1.1 [ inl e ↦ subst (λ (z : Taken). IsAskedBy opened spies z.0 z.1 s) e a.1.2 | inr none ↦ absurd none ]))

    told : (s : Option RoundStop) → IsReason AreFedAnswers (Asks opened spies steps) s (x ∷ []) → IsReason AreFedAnswers (Asks opened spies steps) s (taken ++ x ∷ [])
    told None a = all a
    told (Some Memory) a = tt
    told (Some Limit) a = a
    told (Some Full) a = (all a.0, asked RoundStop.Full a.1)
    told (Some (Spied g)) a = (all a.0, asked (RoundStop.Spied g) a.1)
    told (Some (Clash g)) a = (all a.0, asked (RoundStop.Clash g) a.1)

full_memory : events.refused Fault.Full ≡ events.refused Fault.Memory → ⊥
full_memory e = cc

noted_memory : (g : GoalName) (s : Status) → events.noted g s ≡ events.refused Fault.Memory → ⊥
noted_memory g s e = cc

-- where no step is taken nothing is woken
none_woken : (opened : Gv) (g : GoalName) (woken : List GoalName) → woken ≡ [] → AreWokenOf opened g woken
none_woken opened g woken none h i = absurd (subst (In h) none i)

-- what was added to an empty list is woken
pub woken_of : (opened : Gv) (g : GoalName) (p : Proposal) (old new : List GoalName) → old ≡ [] → (w : World) × IsProposal opened w g None (Ok p) × ListsWoken w (Ok p) old new → AreWokenOf opened g new
woken_of opened g p old new none said h i = elim (said.2 h i) [ inl was ↦ absurd (subst (In h) none was) | inr looks ↦ (said.0, p, said.1, looks) ]

module _ (opened : Gv) (scope : Scope) (spies : Spies) (steps : Bool) (g : GoalName) where
  reason_of_submit : (r : given.Receipt Reply) (stop : Option RoundStop) → steps ≡ true → IsSubmitStop r.reply stop → IsReason AreFedAnswers (Asks opened spies steps) stop ((g, Submitted r) ∷ [])
  reason_of_submit r None takes is = λ y i. elim i [ inl e ↦ λ s. is (subst (λ (z : Taken). IsStarved z.1) e s) | inr none ↦ absurd none ]
  reason_of_submit r (Some Memory) takes is = tt
  reason_of_submit r (Some Limit) takes is = is
  reason_of_submit r (Some Full) takes is = (
    (λ y i. elim i [ inl e ↦ λ s. full_memory (sym is ∙ subst (λ (z : Taken). IsStarved z.1) e s) | inr none ↦ absurd none ]),
    (takes, ((g, Submitted r), inl refl, is)),
  )
  reason_of_submit r (Some (Spied h)) takes is = absurd is
  reason_of_submit r (Some (Clash h)) takes is = absurd is

  -- where no steps are taken, only refused memory is a reason
  pub reason_of_settling : (r : given.Receipt Reply) (stop : Option RoundStop) → IsSettlingStop r.reply stop → IsReason AreFedAnswers (Asks opened spies steps) stop ((g, Noted r) ∷ [])
  reason_of_settling r None is = λ y i. elim i [ inl e ↦ λ s. is (subst (λ (z : Taken). IsStarved z.1) e s) | inr none ↦ absurd none ]
  reason_of_settling r (Some Memory) is = tt
  reason_of_settling r (Some Limit) is = is
  reason_of_settling r (Some Full) is = absurd is
  reason_of_settling r (Some (Spied h)) is = absurd is
  reason_of_settling r (Some (Clash h)) is = absurd is

  pub reason_of_note : (spied : Bool) (r : given.Receipt Reply) (stop : Option RoundStop) → steps ≡ true → (spied ≡ true → IsSpiedGoal opened spies g) → IsNoteStop spied g r.reply stop
      → IsReason AreFedAnswers (Asks opened spies steps) stop ((g, Noted r) ∷ [])
  reason_of_note spied r None takes goal is = λ y i. elim i [ inl e ↦ λ s. is (subst (λ (z : Taken). IsStarved z.1) e s) | inr none ↦ absurd none ]
  reason_of_note spied r (Some Memory) takes goal is = tt
  reason_of_note spied r (Some Limit) takes goal is = is
  reason_of_note spied r (Some Full) takes goal is = absurd is
  reason_of_note spied r (Some (Spied h)) takes goal is = (
    (λ y i. elim i [ inl e ↦ λ s. noted_memory _ _ (sym is.2.1 ∙ subst (λ (z : Taken). IsStarved z.1) e s) | inr none ↦ absurd none ]),
    (takes, ((g, Noted r), inl refl, (is.1, is.2, goal is.0))),
  )
  reason_of_note spied r (Some (Clash h)) takes goal is = (
    (λ y i. elim i [ inl e ↦ λ s. noted_memory _ _ (sym is.1.1.1 ∙ subst (λ (z : Taken). IsStarved z.1) e s) | inr none ↦ absurd none ]),
    (takes, ((g, Noted r), inl refl, is)),
  )

  module _ (old new : Known Item) (step made : ℕ) (woken : Vec GoalName) where
    pub decided_submit : (before : List Item) (p : Proposal) (r : given.Receipt Reply) (stop : Option RoundStop) → steps ≡ true → IsInScope scope g → IsUnspiedStep opened spies g p → new.number ≡ old.number → IsPrefix old.front new.front → new.submits ≡ one_more old.submits
        → IsDecided IsAnswerTo before (Submit p) r old new → IsAnswered (Unit {0}) old.front new.front (holding p) (events.commit 1) (receipt_of r) → IsSubmitStop r.reply stop
        → TellsStep opened g (Submitted r) step made → AreWokenOf opened g woken.items → IsDecidedAs opened scope spies steps g old new (record { answer = Submitted r; stop = stop; step = step; made = made; woken = woken })
    decided_submit before p r stop takes inside unspied number begins made_one d a s makes listed = record {
      told = told_more opened scope spies steps old new g (Submitted r) number begins (submit_places before (Submit p) r old new d) made_one
          (λ base low. (p, inside, unspied, receipt_of_answer _ old.front new.front _ _ _ a, behind before (Submit p) r old new d base low, submit_stands before p r old new d, submit_refused before p r old new d));
      submits = omega (arith, ap one_if takes);
      reason = reason_of_submit r stop takes s;
      makes = makes;
      woken = listed;
    }

    pub decided_note : (before : List Item) (r : given.Receipt Reply) (stop : Option RoundStop) → (steps ≡ true → IsNotedFor opened scope spies g r.reply) → new.number ≡ old.number → IsPrefix old.front new.front → new.submits ≡ old.submits
        → IsDecided IsAnswerTo before (Note g) r old new → IsAnswered (Unit {0}) old.front new.front no_hands (events.note g) (receipt_of r) → IsReason AreFedAnswers (Asks opened spies steps) stop ((g, Noted r) ∷ [])
        → (step ≡ 0) × (made ≡ 0) → woken.items ≡ [] → IsDecidedAs opened scope spies steps g old new (record { answer = Noted r; stop = stop; step = step; made = made; woken = woken })
    decided_note before r stop cause number begins same d a reason nothing none = record {
      told = told_more opened scope spies steps old new g (Noted r) number begins (note_places before g r old new d ∙ sym (append-nil old.places)) same
          (λ base low. (receipt_of_answer _ old.front new.front _ _ _ a, behind before (Note g) r old new d base low, cause));
      submits = omega arith;
      reason = reason;
      makes = nothing;
      woken = none_woken opened g woken.items none;
    }

  pub decided_starved : (old : Known Item) (step made : ℕ) (woken : Vec GoalName) → steps ≡ true → IsStarvedGoal opened g → (step ≡ 0) × (made ≡ 0) → woken.items ≡ []
      → IsDecidedAs opened scope spies steps g old old (record { answer = Starved; stop = Some RoundStop.Memory; step = step; made = made; woken = woken })
  decided_starved old step made woken takes why nothing none = record {
    told = told_more opened scope spies steps old old g Starved refl ([], append-nil old.front) (sym (append-nil old.places)) refl (λ base low. (takes, why));
    submits = omega arith;
    reason = tt;
    makes = nothing;
    woken = none_woken opened g woken.items none;
  }

  -- a goal was noted as ready, and the pass goes on
  pub goes_on : (old new : Known Item) (before : List Item) (r : given.Receipt Reply) → new.number ≡ old.number → IsPrefix old.front new.front → new.submits ≡ old.submits → IsDecided IsAnswerTo before (Note g) r old new → GoesOnWithout opened scope spies steps old new
  goes_on old new before r number begins none d = told_later opened scope spies steps old new number begins (note_places before g r old new d) none

pub opposite : {A : Type 0} (b : Bool) → b ≡ true → b ≡ false → A
opposite b t f = let clash : true ≡ false = sym t ∙ f in cc

pub not_told : {A : Type 0} (b : Bool) → b ≡ false → (A → b ≡ true) → ¬ A
not_told b f told a = opposite b (told a) f

-- the first of the workers, and the others
pub first_work : (ws : List Worker) (d : Worker) → 0 < length ws → works ws ≡ work_of (get_or ws 0 d) ∷ works (drop 1 ws)
first_work [] d low = absurd (omega (arith, low))
first_work (w ∷ ws) d low = refl

pub work_between : (xs : List Work) (x : Work) (ys : List Work) → (xs ++ x ∷ []) ++ ys ≡ xs ++ x ∷ ys
work_between [] x ys = refl
work_between (z ∷ xs) x ys = ap (λ l. z ∷ l) (work_between xs x ys)

-- there are as many works as there were passes at the start
pub told_count : {P : Type 0} (tells : P → List Taken → P → Type 0) (starts : List P) (ks : List Work) (nows : List P) → AreTold tells starts ks nows → length ks ≡ length starts
told_count tells [] [] [] told = refl
told_count tells [] [] (p ∷ ps) told = absurd told
told_count tells [] (k ∷ ks) ps told = absurd told
told_count tells (s ∷ ss) [] ps told = absurd told
told_count tells (s ∷ ss) (k ∷ ks) [] told = absurd told
told_count tells (s ∷ ss) (k ∷ ks) (p ∷ ps) told = ap suc (told_count tells ss ks ps told.1)

-- what a proposal says of its goal
module _ (opened : Gv) (spies : Spies) (g : GoalName) (p : Proposal) where
  pub spied_goal : (w : World) × IsProposal opened w g None (Ok p) → IsSpied spies p.consumed → IsSpiedGoal opened spies g
  spied_goal a s = (a.0, a.1.standing, a.1.of_opening, (p.consumed, a.1.answer.0.there, s))

  pub unspied_step : (w : World) × IsProposal opened w g None (Ok p) → ¬ IsSpied spies p.consumed → IsUnspiedStep opened spies g p
  unspied_step a none = (a.0, a.1, λ (q : IsSpiedIn spies a.0 g). none (subst (IsSpied spies) (one q.0 (sym q.1 ∙ a.1.answer.0.there)) q.2))
    where
      one : (b : Goal) → Some b ≡ Some p.consumed → b ≡ p.consumed
      one b e = cc

-- each pass that comes back has its number
pub told_all : (opened : Gv) (scope : Scope) (spies : Spies) (steps : Bool) (n k : ℕ) (starts : List (Known Item)) (ks : List Work) (nows : List (Known Item)) → AreTold (IsPassAfter opened scope spies steps) starts ks nows → AreAll n k starts → AreAll n k nows
told_all opened scope spies steps n k [] [] [] told all = all
told_all opened scope spies steps n k [] [] (p ∷ ps) told all = absurd told
told_all opened scope spies steps n k [] (w ∷ ks) ps told all = absurd told
told_all opened scope spies steps n k (s ∷ ss) [] ps told all = absurd told
told_all opened scope spies steps n k (s ∷ ss) (w ∷ ks) [] told all = absurd told
told_all opened scope spies steps n k (s ∷ ss) (w ∷ ks) (p ∷ ps) told all = (told.0.number ∙ all.0, told_all opened scope spies steps n (suc k) ss ks ps told.1 all.1)

after_at_most : (k n : ℕ) → after_submits k n ≤ k + n
after_at_most zero n = omega arith
after_at_most (suc k) n = omega (arith, min-le_left (after_submits k n + 1) 18446744073709551615, after_at_most k n)

-- the passes made no more submits than the answers tell of
pub few_made : (opened : Gv) (scope : Scope) (spies : Spies) (steps : Bool) (starts : List (Known Item)) (ks : List Work) (nows : List (Known Item)) → AreTold (IsPassAfter opened scope spies steps) starts ks nows → submits_since starts nows ≤ total_work submits_by ks
few_made opened scope spies steps [] [] [] told = omega arith
few_made opened scope spies steps [] [] (p ∷ ps) told = absurd told
few_made opened scope spies steps [] (k ∷ ks) ps told = absurd told
few_made opened scope spies steps (s ∷ ss) [] ps told = absurd told
few_made opened scope spies steps (s ∷ ss) (k ∷ ks) [] told = absurd told
few_made opened scope spies steps (s ∷ ss) (k ∷ ks) (p ∷ ps) told =
    omega (arith, told.0.submits, after_at_most (submits k.taken.items) s.submits, few_made opened scope spies steps ss ks ps told.1)
