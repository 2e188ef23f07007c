-- What lines leave is a session on what was started.
use Rattle.ghcdb.proofs.CitedWords.{◌≡◌, ℕ, true, false, List, inl, inr, refl, sym, ap, ◌∙◌, subst, Option, Some, None, Program, Opening, World, HasClauseFor, Spies, HasPredicate, Predicate, predicate, predicate_cmp, predicate_total, predicate_antisymmetric, Session, Began, at_end, ends, goes_on, nothing_yet, broken, went_on, SessionState, Started}
use Rattle.std.specs.Prelude.{◌⊎◌, ◌||◌, ◌&&◌, Bool}
use Rattle.std.specs.Cmp.{Equal-is}
use Rattle.std.specs.Ordering.{eq_by_cmp}
use Rattle.std.specs.FinSet as set
use Rattle.ghc_term.specs.declared.goal_name.GoalName.{GoalName}
use Rattle.ghc_records.specs.Record.{Record}
use Rattle.ghc_core.specs.declared.changes.Change.{Change}
use Rattle.ghc_core.specs.declared.changes.Change.TheVariants.{Comes as comes, Goes as goes, Reorders as reorders}
use Rattle.ghc_core.specs.declared.changes.Coming.{Coming}
use Rattle.ghc_core.specs.declared.changes.Going.{Going}
use Rattle.ghc_core.specs.Change.{CanChange, Changes}
use Rattle.ghc_core.specs.Events.{Command}
use Rattle.ghc_core.specs.Reached.{Reaches, by_change}
use Rattle.ghc_hooks.specs.Notes.{NotesByGoal}
use Rattle.ghc_pool.specs.Runs.{Takes as Took}
use Rattle.ghc_console.specs.Keeping.{RollBack, RollsBack, TellsKept}
use Rattle.ghc_console.specs.Replies.{Takes, RepliesToKeep, RepliesToKeepGoal, RepliesToStep, IsObeyed, RepliesToInput, RepliesToAsk, RepliesToSpy, Replies, IsReply}
use Rattle.ghc_console.specs.RunReplies.{TellsRun, RepliesToSkip}
use Rattle.ghc_console.specs.SessionState.{LeavesSpies}
use Rattle.ghc_console.specs.declared.command.LineCommand.{LineCommand}
use Rattle.ghc_console.specs.declared.command.LineCommand.TheVariants.{Step, Obey, Keep, KeepGoal, Spy, Unspy, Input, Ask, Leap, Skip}
use Rattle.ghcdb.specs.Sessions.{IsStateOf, SessionsStaySessions}

-- changes lead to the world v, and it has the opening of the world w
abbrev Goes : World → World → Type 0
Goes w v = Reaches v × (v.opening ≡ w.opening)

opening_stays : (w v : World) (change : Change) → Changes w change v → v.opening ≡ w.opening
opening_stays w v (comes Coming.Next r) e = ap (λ (u : World). u.opening) e
opening_stays w v (comes Coming.Shelved r) e = ap (λ (u : World). u.opening) e
opening_stays w v (goes how gone) c = ap (λ (u : World). u.opening) c.2.2
opening_stays w v (reorders a) e = ap (λ (u : World). u.opening) e

moves : (w v : World) (change : Change) → Reaches w → CanChange w change → Changes w change v → Goes w v
moves w v change at can changes = (by_change change at can changes, opening_stays w v change changes)

stays : (w v : World) → Reaches w → v ≡ w → Goes w v
stays w v at e = (subst Reaches (sym e) at, ap (λ (u : World). u.opening) e)

-- the steps of a run
run_goes : (workers : ℕ) (spies : Spies) (root : Option GoalName) (w : World) (before : NotesByGoal) (v : World) (after : NotesByGoal) (steps : List Record) → Reaches w → Took workers spies root w before steps v after → Goes w v
run_goes workers spies root w before v after steps at Took.at_start = (at, refl)
run_goes workers spies root w before v after steps at (Took.and_tries more so_far kept) = run_goes workers spies root w before v _ steps at so_far
run_goes workers spies root w before v after steps at (Took.and_step {v = u} r left so_far is others) =
    let so = run_goes workers spies root w before u _ _ at so_far in
    (by_change (comes Coming.Next r) so.0 is.taken.2.1 refl, so.1)

-- a step that is rolled back, unless it is not kept
roll_goes : (w u v : World) (n : ℕ) (line : List ℕ) → Goes w u → RollsBack u n line v → Goes w v
roll_goes w u v n line so (RollsBack.not_kept none) = so
roll_goes w u v n line so (RollsBack.rolls gone is can changes) = let m = moves u v (goes Going.Together gone) so.0 can changes in (m.0, m.1 ∙ so.1)

module _ (w : World) (at : Reaches w) where
  step_goes : (g : GoalName) (choice : Option ℕ) (text : List ℕ) (v : World) → RepliesToStep w g choice text v → Goes w v
  step_goes g choice text v (RepliesToStep.steps p named attempt (Takes.takes r is ports behind)) = moves w v (comes Coming.Next r) at is.1 refl
  step_goes g choice text v (RepliesToStep.steps p named attempt (Takes.full f)) = (at, refl)
  step_goes g choice text v (RepliesToStep.fails f attempt told e) = stays w v at e

  obeyed_goes : (c : Command) (text : List ℕ) (v : World) → IsObeyed w c text v → Goes w v
  obeyed_goes c text v (IsObeyed.obeys change asked told) = moves w v change at asked.1 told.2
  obeyed_goes c text v (IsObeyed.refuses f why told e) = stays w v at e

  input_goes : (k : ℕ) (given text : List ℕ) (v : World) → RepliesToInput w k given text v → Goes w v
  input_goes k given text v (RepliesToInput.unread why) = (at, refl)
  input_goes k given text v (RepliesToInput.reads u read is) = obeyed_goes _ text v is

  ask_goes : (given text : List ℕ) (v : World) → RepliesToAsk w given text v → Goes w v
  ask_goes given text v (RepliesToAsk.unasked why) = (at, refl)
  ask_goes given text v (RepliesToAsk.asks gs read is) = obeyed_goes _ text v is

  tells_goes : (workers : ℕ) (spies : Spies) (root : Option GoalName) (limit : ℕ) (text : List ℕ) (v : World) → TellsRun workers spies root limit w text v → Goes w v
  tells_goes workers spies root limit text v is = run_goes workers spies root w is.run.before v is.notes is.run.steps at is.run.taken

  skip_goes : (workers : ℕ) (spies : Spies) (g : GoalName) (text : List ℕ) (v : World) → RepliesToSkip workers spies w g text v → Goes w v
  skip_goes workers spies g text v (RepliesToSkip.skips b there is) = tells_goes workers spies (Some g) _ text v is
  skip_goes workers spies g text v (RepliesToSkip.no_goal none) = (at, refl)

  back_goes : (ns text : List ℕ) (v : World) → RollBack w ns text v → Goes w v
  back_goes ns text v RollBack.none_yet = (at, refl)
  back_goes ns text v (RollBack.and_next {line = line} {n = n} {v = u} so_far one) = roll_goes w u v n line (back_goes _ _ u so_far) one

  kept_goes : (ns text : List ℕ) (v : World) → TellsKept w ns text v → Goes w v
  kept_goes ns text v (TellsKept.rolled_all back) = back_goes ns _ v back
  kept_goes ns text v (TellsKept.rolled_some {front = front} more e back) = back_goes front _ v back

  keep_goes : (word text : List ℕ) (v : World) → RepliesToKeep w word text v → Goes w v
  keep_goes word text v (RepliesToKeep.keeps x slice rest named is told) = kept_goes _ text v told
  keep_goes word text v (RepliesToKeep.keeps_nothing none) = (at, refl)

  keep_goal_goes : (g : GoalName) (text : List ℕ) (v : World) → RepliesToKeepGoal w g text v → Goes w v
  keep_goal_goes g text v (RepliesToKeepGoal.keeps_goal b slice rest there is told) = kept_goes _ text v told
  keep_goal_goes g text v (RepliesToKeepGoal.keeps_no_goal none) = (at, refl)

  reply_goes : (lines : List ℕ) (workers : ℕ) (spies : Spies) (c : LineCommand) (text : List ℕ) (v : World) → Replies lines workers spies w c text v → Goes w v
  reply_goes lines workers spies (Step g choice) text v is = step_goes g choice text v is
  reply_goes lines workers spies (Obey c) text v is = obeyed_goes _ text v is
  reply_goes lines workers spies (Keep word) text v is = keep_goes word text v is
  reply_goes lines workers spies (KeepGoal g) text v is = keep_goal_goes g text v is
  reply_goes lines workers spies (Input k given) text v is = input_goes k given text v is
  reply_goes lines workers spies (Ask given) text v is = ask_goes given text v is
  reply_goes lines workers spies (Leap limit) text v is = tells_goes workers spies None limit text v is
  reply_goes lines workers spies (Skip g) text v is = skip_goes workers spies g text v is
  reply_goes lines workers spies c text v is = stays w v at is.1

-- ---- the predicates that are spied

abbrev Known : Program → Spies → Type 0
Known P spies = (f : List ℕ) (n : ℕ) → HasPredicate spies f n → HasClauseFor P f n

pub either : (a b : Bool) → (a || b) ≡ true → (a ≡ true) ⊎ (b ≡ true)
either true b e = inl refl
either false b e = inr e

pub both : (a b : Bool) → (a && b) ≡ true → b ≡ true
both true b e = e
both false b e = cc

pub same_predicate : (f : List ℕ) (n : ℕ) (g : List ℕ) (m : ℕ) → eq_by_cmp predicate_cmp (predicate g m) (predicate f n) ≡ true → predicate f n ≡ predicate g m
same_predicate f n g m e = sym (predicate_antisymmetric (predicate g m) (predicate f n) ((Equal-is (predicate_cmp (predicate g m) (predicate f n))).0 e))

added_known : (P : Program) (spies : Spies) (f : List ℕ) (n : ℕ) → Known P spies → HasClauseFor P f n → Known P (set.insert spies (predicate f n))
added_known P spies f n known has g m is =
    elim (either _ _ (sym (set.contains-insert predicate_total spies (predicate f n) (predicate g m)) ∙ is)) [
      | inl e ↦ subst (λ (q : Predicate). HasClauseFor P q.name q.arity) (same_predicate f n g m e) has
      | inr old ↦ known g m old
    ]

removed_known : (P : Program) (spies : Spies) (f : List ℕ) (n : ℕ) → Known P spies → Known P (set.remove spies (predicate f n))
removed_known P spies f n known g m is = known g m (both _ _ (sym (set.contains-remove predicate_total spies (predicate f n) (predicate g m)) ∙ is))

spied_known : (P : Program) (spies : Spies) (f : List ℕ) (n : ℕ) (text : List ℕ) (left : Spies) → Known P spies → RepliesToSpy P f n text → LeavesSpies P spies (Spy f n) left → Known P left
spied_known P spies f n text left known (RepliesToSpy.is_spied has) leaves = subst (Known P) (sym (leaves.defined has)) (added_known P spies f n known has)
spied_known P spies f n text left known (RepliesToSpy.is_undefined none) leaves = subst (Known P) (sym (leaves.undefined none)) known

leaves_known : (lines : List ℕ) (workers : ℕ) (spies : Spies) (w : World) (c : LineCommand) (text : List ℕ) (v : World) (left : Spies) → Known w.opening.program spies → Replies lines workers spies w c text v → LeavesSpies w.opening.program spies c left → Known w.opening.program left
leaves_known lines workers spies w (Spy f n) text v left known told leaves = spied_known w.opening.program spies f n text left known told.0 leaves
leaves_known lines workers spies w (Unspy f n) text v left known told leaves = subst (Known w.opening.program) (sym leaves) (removed_known w.opening.program spies f n known)
leaves_known lines workers spies w c text v left known told leaves = subst (Known w.opening.program) (sym leaves) known

-- ---- lines

module _ (s : Started) where
  line_keeps : (t u : SessionState) (bytes text : List ℕ) (ended : Bool) → IsStateOf s t → IsReply t bytes text u ended → IsStateOf s u
  line_keeps t u bytes text ended is (IsReply.replies few a) =
      let went = reply_goes t.world is.standing _ t.workers t.spies _ text u.world a.told in
      let known = leaves_known _ t.workers t.spies t.world _ text u.world u.spies (subst (λ P. Known P t.spies) (sym is.program) is.spied) a.told a.spies in record {
        standing = went.0;
        program = ap (λ (o : Opening). o.program) went.1 ∙ is.program;
        query = ap (λ (o : Opening). o.query) went.1 ∙ is.query;
        names = ap (λ (o : Opening). o.names) went.1 ∙ is.names;
        spied = subst (λ P. Known P u.spies) is.program known;
      }
  line_keeps t u bytes text ended is (IsReply.too_long long) = is
  line_keeps t u bytes text ended is IsReply.no_memory = is

  whole_keeps : (count : ℕ) (t u : SessionState) (lines : List (List ℕ)) (out : List ℕ) → IsStateOf s t → Session count t lines out u → IsStateOf s u
  whole_keeps count t u lines out is at_end = is
  whole_keeps count t u lines out is (ends reply) = line_keeps t u _ _ _ is reply
  whole_keeps count t u lines out is (goes_on {r = r} reply more) = whole_keeps _ r u _ _ (line_keeps t r _ _ _ is reply) more

  begun_keeps : (count : ℕ) (t u : SessionState) (lines : List (List ℕ)) (out : List ℕ) → IsStateOf s t → Began count t lines out u → IsStateOf s u
  begun_keeps count t u lines out is nothing_yet = is
  begun_keeps count t u lines out is (broken n reply) = line_keeps t u _ _ _ is reply
  begun_keeps count t u lines out is (went_on {r = r} reply more) = begun_keeps _ r u _ _ (line_keeps t r _ _ _ is reply) more

pub stay : SessionsStaySessions
stay = record {
  line = line_keeps;
  whole = λ s count t u lines out is run. elim run [ inl w ↦ whole_keeps s count t u lines out is w | inr b ↦ begun_keeps s count t u lines out is b ];
}
