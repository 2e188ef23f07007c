-- What lines leave a text can tell.
use Rattle.ghcdb.proofs.CitedWords.{◌≡◌, ◌<◌, ◌≤◌, ℕ, List, length, inl, inr, refl, sym, ap, ◌∙◌, subst, arith, Option, Some, None, In, Program, Opening, World, Spies, predicate, predicate_total, Session, Began, at_end, ends, goes_on, nothing_yet, broken, went_on, SessionState}
use Rattle.std.specs.Prelude.{◌⊎◌, Bool}
use Rattle.std.specs.FinSet as set
use Rattle.ghc_term.specs.declared.goal_name.GoalName.{GoalName}
use Rattle.ghc_term.specs.InputTerm.{IsInputTerm, IsNameText}
use Rattle.ghc_term.specs.Tree.{Tree}
use Rattle.ghc_term.proofs.ListsLemmas.{in_more}
use Rattle.ghc_reader.proofs.ReadTerms.{read_is_input}
use Rattle.ghc_fire.specs.declared.act.Act.{Act}
use Rattle.ghc_fire.specs.declared.act.Act.TheVariants.{Given as given, Asked as asked}
use Rattle.ghc_term.specs.Goal.{Goal}
use Rattle.ghc_fire.specs.Asked.{NameNoneOf, asked_as, asked_of}
use Rattle.ghc_records.specs.ChronicleLaws.{CanBeAsked, CanBeSaid}
use Rattle.ghc_records.specs.EntryText.{AreNewInOrder}
use Rattle.ghc_records.specs.HistoryLaws.{IsOfAGoal}
use Rattle.ghc_reader.specs.Lexed.{greatest_number}
use Rattle.ghc_records.specs.Numbers.{number_limit}
use Rattle.ghc_depend.proofs.Finding.{not_both}
use Rattle.ghc_depend.proofs.Results.{firing}
use Rattle.ghc_core.specs.AskedGoals.{IsOfAsk}
use Rattle.ghc_console.specs.AskedFor.{IsReadAskFor}
use Rattle.ghcdb.proofs.AsksTold.{can_be_asked}
use Rattle.ghc_records.specs.Journal.{Step, Entry}
use Rattle.ghc_records.specs.Record.{Record}
use Rattle.ghc_core.specs.declared.changes.Change.{Change}
use Rattle.ghc_core.specs.declared.changes.Change.TheVariants.{Comes as comes, Goes as goes}
use Rattle.ghc_core.specs.declared.changes.Coming.{Coming}
use Rattle.ghc_core.specs.declared.changes.Going.{Going}
use Rattle.ghc_core.specs.declared.command.Command.{Command as Given}
use Rattle.ghc_core.specs.declared.command.Command.TheVariants as core
use Rattle.ghc_core.specs.Answers.{Asks, to_give, to_close, to_undo, to_roll, to_redo, to_arrange, to_ask}
use Rattle.ghc_core.specs.Change.{CanChange, Changes}
use Rattle.ghc_core.specs.CommandCode.{command_of as core_command_of}
use Rattle.ghc_core.specs.Events.{Command, input, ask}
use Rattle.ghc_core.specs.Proposes.{IsCommitOf, IsReduction}
use Rattle.ghc_core.specs.Reached.{Reaches, by_change}
use Rattle.ghc_core.specs.World.{IsNextStep, Proposal, with_step}
use Rattle.ghc_core.proofs.Moving.{opening_stays}
use Rattle.ghc_core.proofs.Resuming.{entered_by, enters_own}
use Rattle.ghc_hooks.specs.Notes.{NotesByGoal}
use Rattle.ghc_pool.specs.Runs.{Takes as Took}
use Rattle.ghc_console.specs.Keeping.{RollBack, RollsBack, TellsKept}
use Rattle.ghc_console.specs.Replies.{Takes, RepliesToKeep, RepliesToKeepGoal, RepliesToStep, IsObeyed, RepliesToInput, RepliesToAsk, RepliesToSpy, Replies, IsReply}
use Rattle.ghc_console.specs.RunReplies.{TellsRun, RepliesToSkip}
use Rattle.ghc_console.specs.SessionState.{LeavesSpies}
use Rattle.ghc_console.specs.declared.command.LineCommand.{LineCommand}
use Rattle.ghc_console.specs.declared.command.LineCommand.TheVariants.{Step as step, Obey, Keep, KeepGoal, Spy, Unspy, Input, Ask, Leap, Skip}
use Rattle.ghcdb.proofs.GoalNumbers.{HasShortBodies, goals_small}
use Rattle.ghcdb.proofs.SaidEntries.{CanBeGiven, ChangeCanBeGiven, entry_said}
use Rattle.ghcdb.proofs.SessionsStay.{both, either, same_predicate}
use Rattle.ghcdb.proofs.SpiesTold.{HaveNames}
use Rattle.ghcdb.proofs.SpyWords.{IsSaidByLine, said_by_line}

-- the program and the query of an opening are within the limits
pub record IsShort (o : Opening) : Type 0 where
  pub clauses : length o.program ≤ 10000
  pub bodies : HasShortBodies o.program
  pub query : length o.query ≤ 1000
  pub names : length o.names ≤ 1000

-- lines can say the steps of its opening and the entries of its journal
pub record IsSaid (w : World) : Type 0 where
  pub steps : (s : Step) → In s w.opening.steps → IsOfAGoal s
  pub entries : (e : Entry) → In e w.journal → CanBeSaid e

-- a world that changes reach, of an opening within the limits, and that can be told
pub record IsTold (w : World) : Type 0 where
  pub reached : Reaches w
  pub short : IsShort w.opening
  pub tells : IsSaid w

moves : (w v : World) (change : Change) → IsTold w → CanChange w change → Changes w change v → ChangeCanBeGiven change → IsTold v
moves w v change told can changes gives =
    let same : v.opening ≡ w.opening = opening_stays w v change can changes in
    let short = told.short in
    let said = entry_said w told.reached short.clauses (goals_small w told.reached short.bodies short.query) change can gives in
    record {
      reached = by_change change told.reached can changes;
      short = subst IsShort (sym same) short;
      tells = record {
        steps = λ s i. told.tells.steps s (subst (λ (o : Opening). In s o.steps) same i);
        entries = λ e i. elim (in_more w.journal (entered_by change) e (subst (λ (l : List Entry). In e l) (enters_own w v change can changes) i)) [
          | inl old ↦ told.tells.entries e old
          | inr new ↦ subst CanBeSaid (sym new) said
        ];
      };
    }

stays : (w v : World) → IsTold w → v ≡ w → IsTold v
stays w v told e = subst IsTold (sym e) told

-- a step that was proposed gives no input, and asks for nothing
reduces : (w : World) (p : Proposal) (r : Record) → IsCommitOf w p r → CanBeGiven r
reduces w p r is = record { input = λ u e. absurd (subst IsReduction (sym is.3 ∙ e) is.0.1); asks = λ gs e. absurd (subst IsReduction (sym is.3 ∙ e) is.0.1) }

-- the steps of a run
run_tells : (workers : ℕ) (spies : Spies) (root : Option GoalName) (w : World) (before : NotesByGoal) (v : World) (after : NotesByGoal) (steps : List Record) → IsTold w → Took workers spies root w before steps v after → IsTold v
run_tells workers spies root w before v after steps told Took.at_start = told
run_tells workers spies root w before v after steps told (Took.and_tries more so_far kept) = run_tells workers spies root w before v _ steps told so_far
run_tells workers spies root w before v after steps told (Took.and_step {v = u} r left so_far is others) =
    moves u (with_step r u) (comes Coming.Next r) (run_tells workers spies root w before u _ _ told so_far) is.taken.2.1 refl (reduces u is.taken.0 r is.taken.2)

-- a step that is rolled back, unless it is not kept
roll_tells : (u v : World) (n : ℕ) (line : List ℕ) → IsTold u → RollsBack u n line v → IsTold v
roll_tells u v n line told (RollsBack.not_kept none) = told
roll_tells u v n line told (RollsBack.rolls gone is can changes) = moves u v (goes Going.Together gone) told can changes tt

-- what a command gives is an input term, where it gives one
abbrev CommandGivesInput : Command → Type 0
CommandGivesInput c = (k : ℕ) (u : Tree) → c ≡ input k u → IsInputTerm u

-- .. and a line can ask for what it asks for, where it asks for goals
abbrev CommandAsks : World → Command → Type 0
CommandAsks w c = (gs : List Goal) (r : Record) → c ≡ ask gs → IsOfAsk gs r → IsNextStep w r → (hs : List Goal) → r.act ≡ asked hs → CanBeAsked r.number hs

same_given : (a : Act) (t u : Tree) → a ≡ given t → a ≡ given u → t ≡ u
same_given a t u d e = (let same : given t ≡ given u = sym d ∙ e in cc)

change_given : (w : World) (c : Command) (change : Change) → Asks c change → CanChange w change → CommandGivesInput c → CommandAsks w c → ChangeCanBeGiven change
change_given w c change (to_give {k = k} {t = t} {r = r} of) can gives asks = record { input = λ u e. subst IsInputTerm (same_given r.act t u of.4 e) (gives k t refl); asks = λ gs e. (let clash = sym of.4 ∙ e in cc) }
change_given w c change (to_close of) can gives asks = record { input = λ u e. (let clash = sym of.4 ∙ e in cc); asks = λ gs e. (let clash = sym of.4 ∙ e in cc) }
change_given w c change (to_undo e) can gives asks = tt
change_given w c change (to_roll e) can gives asks = tt
change_given w c change (to_redo e) can gives asks = tt
change_given w c change (to_arrange e) can gives asks = tt
change_given w c change (to_ask {gs = gs} {r = r} of) can gives asks = record { input = λ u e. (let clash = sym of.3 ∙ e in cc); asks = asks gs r refl of can }

-- what is read as asked for
ask_given : (w : World) (bytes : List ℕ) (gs : List Goal) (r : Record) → length w.opening.names ≤ 1000 → IsReadAskFor w bytes gs → IsOfAsk gs r → IsNextStep w r
    → (hs : List Goal) → r.act ≡ asked hs → CanBeAsked r.number hs
ask_given w bytes gs r short read of next hs e =
    let n = r.number in
    let low : n < number_limit = omega (arith, next.0, next.2.0) in
    let same : hs ≡ asked_as n gs = (let both : asked hs ≡ asked (asked_as n gs) = sym e ∙ of.3 in cc) in
    let is : hs ≡ asked_as n (asked_of read.0) = same ∙ ap (asked_as n) read.2 in
    let none : NameNoneOf n (asked_of read.0) = subst (NameNoneOf n) read.2 of.1 in
    let new : AreNewInOrder n hs = elim (firing w.opening.program w.state r next.1) [
      | inl t ↦ absurd (not_both t.named of.2)
      | inr k ↦ (let goals : k.goals ≡ hs = (let both : asked k.goals ≡ asked hs = sym k.act ∙ e in cc) in subst (AreNewInOrder n) goals (r.effect.fresh, k.asks.own))
    ] in
    subst (CanBeAsked n) (sym is) (can_be_asked w.opening.names bytes read.0 n short read.1 low none (subst (AreNewInOrder n) is new))

module _ (w : World) (told : IsTold w) where
  step_tells : (g : GoalName) (choice : Option ℕ) (text : List ℕ) (v : World) → RepliesToStep w g choice text v → IsTold v
  step_tells g choice text v (RepliesToStep.steps p named attempt (Takes.takes r is ports behind)) = moves w v (comes Coming.Next r) told is.1 refl (reduces w p r is)
  step_tells g choice text v (RepliesToStep.steps p named attempt (Takes.full f)) = told
  step_tells g choice text v (RepliesToStep.fails f attempt said e) = stays w v told e

  obeyed_tells : (c : Command) (text : List ℕ) (v : World) → CommandGivesInput c → CommandAsks w c → IsObeyed w c text v → IsTold v
  obeyed_tells c text v gives asks (IsObeyed.obeys change is tells) = moves w v change told is.1 tells.2 (change_given w c change is.0 is.1 gives asks)
  obeyed_tells c text v gives asks (IsObeyed.refuses f why said e) = stays w v told e

  input_tells : (k : ℕ) (bytes text : List ℕ) (v : World) → RepliesToInput w k bytes text v → IsTold v
  input_tells k bytes text v (RepliesToInput.unread why) = told
  input_tells k bytes text v (RepliesToInput.reads u read is) = obeyed_tells (input k u) text v (λ m t e. (let same : u ≡ t = cc in subst IsInputTerm same (read_is_input bytes u read))) (λ gs r e. cc) is

  ask_tells : (bytes text : List ℕ) (v : World) → RepliesToAsk w bytes text v → IsTold v
  ask_tells bytes text v (RepliesToAsk.unasked why) = told
  ask_tells bytes text v (RepliesToAsk.asks gs read is) = obeyed_tells (ask gs) text v (λ m t e. cc) (λ hs r e of next. (let same : gs ≡ hs = cc in ask_given w bytes hs r told.short.names (read.0, read.1, sym same ∙ read.2) of next)) is

  -- a command of a line is no input and no ask
  given_tells : (c : Given) (text : List ℕ) (v : World) → IsSaidByLine (Obey c) → IsObeyed w (core_command_of c) text v → IsTold v
  given_tells (core.Input k u) text v said is = absurd said
  given_tells (core.Ask goals) text v said is = absurd said
  given_tells c text v said is = obeyed_tells _ text v (λ m t e. cc) (λ gs r e. cc) is

  ran_tells : (workers : ℕ) (spies : Spies) (root : Option GoalName) (limit : ℕ) (text : List ℕ) (v : World) → TellsRun workers spies root limit w text v → IsTold v
  ran_tells workers spies root limit text v is = run_tells workers spies root w is.run.before v is.notes is.run.steps told is.run.taken

  skip_tells : (workers : ℕ) (spies : Spies) (g : GoalName) (text : List ℕ) (v : World) → RepliesToSkip workers spies w g text v → IsTold v
  skip_tells workers spies g text v (RepliesToSkip.skips b there is) = ran_tells workers spies (Some g) _ text v is
  skip_tells workers spies g text v (RepliesToSkip.no_goal none) = told

  back_tells : (ns text : List ℕ) (v : World) → RollBack w ns text v → IsTold v
  back_tells ns text v RollBack.none_yet = told
  back_tells ns text v (RollBack.and_next {line = line} {n = n} {v = u} so_far one) = roll_tells u v n line (back_tells _ _ u so_far) one

  kept_tells : (ns text : List ℕ) (v : World) → TellsKept w ns text v → IsTold v
  kept_tells ns text v (TellsKept.rolled_all back) = back_tells ns _ v back
  kept_tells ns text v (TellsKept.rolled_some {front = front} more e back) = back_tells front _ v back

  keep_tells : (word text : List ℕ) (v : World) → RepliesToKeep w word text v → IsTold v
  keep_tells word text v (RepliesToKeep.keeps x slice rest named is tells) = kept_tells _ text v tells
  keep_tells word text v (RepliesToKeep.keeps_nothing none) = told

  keep_goal_tells : (g : GoalName) (text : List ℕ) (v : World) → RepliesToKeepGoal w g text v → IsTold v
  keep_goal_tells g text v (RepliesToKeepGoal.keeps_goal b slice rest there is tells) = kept_tells _ text v tells
  keep_goal_tells g text v (RepliesToKeepGoal.keeps_no_goal none) = told

  reply_tells : (lines : List ℕ) (workers : ℕ) (spies : Spies) (c : LineCommand) (text : List ℕ) (v : World) → IsSaidByLine c → Replies lines workers spies w c text v → IsTold v
  reply_tells lines workers spies (step g choice) text v said is = step_tells g choice text v is
  reply_tells lines workers spies (Obey c) text v said is = given_tells c text v said is
  reply_tells lines workers spies (Keep word) text v said is = keep_tells word text v is
  reply_tells lines workers spies (KeepGoal g) text v said is = keep_goal_tells g text v is
  reply_tells lines workers spies (Input k bytes) text v said is = input_tells k bytes text v is
  reply_tells lines workers spies (Ask bytes) text v said is = ask_tells bytes text v is
  reply_tells lines workers spies (Leap limit) text v said is = ran_tells workers spies None limit text v is
  reply_tells lines workers spies (Skip g) text v said is = skip_tells workers spies g text v is
  reply_tells lines workers spies c text v said is = stays w v told is.1

-- ---- the predicates that are spied

added_named : (spies : Spies) (f : List ℕ) (n : ℕ) → HaveNames spies → IsNameText f × (n ≤ greatest_number) → HaveNames (set.insert spies (predicate f n))
added_named spies f n named fits g m is =
    elim (either _ _ (sym (set.contains-insert predicate_total spies (predicate f n) (predicate g m)) ∙ is)) [
      | inl e ↦ subst (λ q. IsNameText q.name × (q.arity ≤ greatest_number)) (same_predicate f n g m e) fits
      | inr old ↦ named g m old
    ]

removed_named : (spies : Spies) (f : List ℕ) (n : ℕ) → HaveNames spies → HaveNames (set.remove spies (predicate f n))
removed_named spies f n named g m is = named g m (both _ _ (sym (set.contains-remove predicate_total spies (predicate f n) (predicate g m)) ∙ is))

spied_named : (P : Program) (spies : Spies) (f : List ℕ) (n : ℕ) (text : List ℕ) (left : Spies) → HaveNames spies → IsNameText f × (n ≤ greatest_number) → RepliesToSpy P f n text → LeavesSpies P spies (Spy f n) left
    → HaveNames left
spied_named P spies f n text left named fits (RepliesToSpy.is_spied has) leaves = subst HaveNames (sym (leaves.defined has)) (added_named spies f n named fits)
spied_named P spies f n text left named fits (RepliesToSpy.is_undefined none) leaves = subst HaveNames (sym (leaves.undefined none)) named

leaves_named : (lines : List ℕ) (workers : ℕ) (spies : Spies) (w : World) (c : LineCommand) (text : List ℕ) (v : World) (left : Spies) → HaveNames spies → IsSaidByLine c → Replies lines workers spies w c text v
    → LeavesSpies w.opening.program spies c left → HaveNames left
leaves_named lines workers spies w (Spy f n) text v left named said told leaves = spied_named w.opening.program spies f n text left named said told.0 leaves
leaves_named lines workers spies w (Unspy f n) text v left named said told leaves = subst HaveNames (sym leaves) (removed_named spies f n named)
leaves_named lines workers spies w c text v left named said told leaves = subst HaveNames (sym leaves) named

-- ---- lines

-- a state of which world and spies can be told
pub record IsToldState (t : SessionState) : Type 0 where
  pub world : IsTold t.world
  pub named : HaveNames t.spies

line_tells : (t u : SessionState) (bytes text : List ℕ) (ended : Bool) → IsToldState t → IsReply t bytes text u ended → IsToldState u
line_tells t u bytes text ended is (IsReply.replies few a) =
    let said = said_by_line bytes in
    record {
      world = reply_tells t.world is.world _ t.workers t.spies _ text u.world said a.told;
      named = leaves_named _ t.workers t.spies t.world _ text u.world u.spies is.named said a.told a.spies;
    }
line_tells t u bytes text ended is (IsReply.too_long long) = is
line_tells t u bytes text ended is IsReply.no_memory = is

whole_tells : (count : ℕ) (t u : SessionState) (lines : List (List ℕ)) (out : List ℕ) → IsToldState t → Session count t lines out u → IsToldState u
whole_tells count t u lines out is at_end = is
whole_tells count t u lines out is (ends reply) = line_tells t u _ _ _ is reply
whole_tells count t u lines out is (goes_on {r = r} reply more) = whole_tells _ r u _ _ (line_tells t r _ _ _ is reply) more

begun_tells : (count : ℕ) (t u : SessionState) (lines : List (List ℕ)) (out : List ℕ) → IsToldState t → Began count t lines out u → IsToldState u
begun_tells count t u lines out is nothing_yet = is
begun_tells count t u lines out is (broken n reply) = line_tells t u _ _ _ is reply
begun_tells count t u lines out is (went_on {r = r} reply more) = begun_tells _ r u _ _ (line_tells t r _ _ _ is reply) more

pub lines_tell : (count : ℕ) (t u : SessionState) (lines : List (List ℕ)) (out : List ℕ) → IsToldState t → Session count t lines out u ⊎ Began count t lines out u → IsToldState u
lines_tell count t u lines out is (inl run) = whole_tells count t u lines out is run
lines_tell count t u lines out is (inr run) = begun_tells count t u lines out is run
