use Rattle.ghc_pool.proofs.Words.{◌↔◌, length, reverse, sym, subst, ◌∙◌, length-reverse, GoalName, In, Fault, ready, failed, NotesByGoal, IsNotedAs, IsInQuestion, AreLast, starved, has_failed, is_spied, is_full}
use Rattle.ghc_pool.specs.Runs.{IsReady}
use Rattle.ghc_pool.proofs.Surveyed.{is_ready_one, ready_there, is_failed_one, none_failed, quiet_holds, some_member, empty_is, empty_not}
use Rattle.ghc_pool.proofs.Listing.{last_each, last_none}
use Rattle.ghc_core.proofs.Stepping.{room_or_full}
use Rattle.ghc_pool.proofs.runs.survey.survey.Goals as goal

pub returns-in_default-clause-stop : goal.returns-in_default-clause-stop
returns-in_default-clause-stop c limit taken = starved tt

pub returns-in_default-last_asked-clause-stop : goal.returns-in_default-last_asked-clause-stop
returns-in_default-last_asked-clause-stop c limit taken = starved tt

pub returns-in-Some-first_asked-clause-stop : goal.returns-in-Some-first_asked-clause-stop
returns-in-Some-first_asked-clause-stop c limit taken =
    let core = c.args.core.now in
    let goals = c.in-Some.goals.now in
    let failed_ones = λ (g : GoalName). subst (λ (notes : NotesByGoal). In g goals.failed.keys ↔ ((f : Fault) × IsNotedAs notes g (failed f))) c.tries.ensures.notes (c.in-Some.ensures.failed g) in
    let found = c.in-Some-first_asked.ensures.some in
    has_failed c.in-Some-first_asked.goal (is_failed_one core.world core.notes core.untried c.stands.ensures.orderly.acyclic c.stands.ensures.exact c.requires c.args.root goals.failed.keys failed_ones c.in-Some-first_asked.goal found.0 found.1)

pub returns-in-Some-first_spied-clause-stop : goal.returns-in-Some-first_spied-clause-stop
returns-in-Some-first_spied-clause-stop c limit taken =
    let core = c.args.core.now in
    let goals = c.in-Some.goals.now in
    let failed_ones = λ (g : GoalName). subst (λ (notes : NotesByGoal). In g goals.failed.keys ↔ ((f : Fault) × IsNotedAs notes g (failed f))) c.tries.ensures.notes (c.in-Some.ensures.failed g) in
    let ready_ones = λ (g : GoalName). subst (λ (notes : NotesByGoal). In g goals.ready.keys ↔ IsNotedAs notes g ready) c.tries.ensures.notes (c.in-Some.ensures.ready g) in
    let unfailed = none_failed core.world core.notes core.untried c.stands.ensures.orderly.acyclic c.stands.ensures.exact c.requires c.args.root goals.failed.keys failed_ones c.in_default-first_asked.ensures.none in
    let found = c.in-Some-first_spied.ensures.some in
    is_spied c.in-Some-first_spied.goal unfailed (is_ready_one core.world core.notes core.untried c.stands.ensures.orderly.acyclic c.stands.ensures.exact c.requires c.args.root goals.ready.keys ready_ones c.in-Some-first_spied.goal found.0 found.1) found.2

pub returns-then-is_full-clause-stop : goal.returns-then-is_full-clause-stop
returns-then-is_full-clause-stop c limit taken =
    let core = c.args.core.now in
    let goals = c.in-Some.goals.now in
    let failed_ones = λ (g : GoalName). subst (λ (notes : NotesByGoal). In g goals.failed.keys ↔ ((f : Fault) × IsNotedAs notes g (failed f))) c.tries.ensures.notes (c.in-Some.ensures.failed g) in
    let ready_ones = λ (g : GoalName). subst (λ (notes : NotesByGoal). In g goals.ready.keys ↔ IsNotedAs notes g ready) c.tries.ensures.notes (c.in-Some.ensures.ready g) in
    let unfailed = none_failed core.world core.notes core.untried c.stands.ensures.orderly.acyclic c.stands.ensures.exact c.requires c.args.root goals.failed.keys failed_ones c.in_default-first_asked.ensures.none in
    let unspied = λ (g : GoalName) (r : IsReady c.args.root core.world g). c.in_default-first_spied.ensures.none g (ready_there core.world core.notes core.untried c.stands.ensures.orderly.acyclic c.stands.ensures.exact c.requires c.args.root goals.ready.keys ready_ones g r) r.0 in
    is_full (record { unfailed = unfailed; unspied = unspied }) (c.is_full.ensures.full c.if-is_full.true)

pub returns-then-is_empty-clause-stop : goal.returns-then-is_empty-clause-stop
returns-then-is_empty-clause-stop c limit taken =
    let core = c.args.core.now in
    let goals = c.in-Some.goals.now in
    let failed_ones = λ (g : GoalName). subst (λ (notes : NotesByGoal). In g goals.failed.keys ↔ ((f : Fault) × IsNotedAs notes g (failed f))) c.tries.ensures.notes (c.in-Some.ensures.failed g) in
    let ready_ones = λ (g : GoalName). subst (λ (notes : NotesByGoal). In g goals.ready.keys ↔ IsNotedAs notes g ready) c.tries.ensures.notes (c.in-Some.ensures.ready g) in
    let unfailed = none_failed core.world core.notes core.untried c.stands.ensures.orderly.acyclic c.stands.ensures.exact c.requires c.args.root goals.failed.keys failed_ones c.in_default-first_asked.ensures.none in
    let P = IsInQuestion c.args.root core.world.kept in
    let most = c.one_at_least.result in
    let items = c.in-Ok.listed.items in
    let none = empty_is items _ c.in-Ok.listed.ok.0 (sym c.is_empty.ensures ∙ c.if-is_empty.true) in
    let last = subst (λ list. AreLast P most goals.ready.keys (reverse list)) none c.in-Ok.ensures in
    let unready = λ (g : GoalName) (r : IsReady c.args.root core.world g). last_none P most goals.ready.keys c.one_at_least.ensures last g (ready_there core.world core.notes core.untried c.stands.ensures.orderly.acyclic c.stands.ensures.exact c.requires c.args.root goals.ready.keys ready_ones g r) r.0 in
    let room = room_or_full core.world (c.is_full.ensures.room c.if-is_full.false) in
    quiet_holds core.world core.notes core.untried c.stands.ensures.orderly.acyclic c.stands.ensures.exact c.requires c.args.root (Unit {0}) c.args.spies.now limit taken room unready unfailed

pub returns-clause-ready : goal.returns-clause-ready
returns-clause-ready c =
    let core = c.args.core.now in
    let goals = c.in-Some.goals.now in
    let failed_ones = λ (g : GoalName). subst (λ (notes : NotesByGoal). In g goals.failed.keys ↔ ((f : Fault) × IsNotedAs notes g (failed f))) c.tries.ensures.notes (c.in-Some.ensures.failed g) in
    let ready_ones = λ (g : GoalName). subst (λ (notes : NotesByGoal). In g goals.ready.keys ↔ IsNotedAs notes g ready) c.tries.ensures.notes (c.in-Some.ensures.ready g) in
    let unfailed = none_failed core.world core.notes core.untried c.stands.ensures.orderly.acyclic c.stands.ensures.exact c.requires c.args.root goals.failed.keys failed_ones c.in_default-first_asked.ensures.none in
    let unspied = λ (g : GoalName) (r : IsReady c.args.root core.world g). c.in_default-first_spied.ensures.none g (ready_there core.world core.notes core.untried c.stands.ensures.orderly.acyclic c.stands.ensures.exact c.requires c.args.root goals.ready.keys ready_ones g r) r.0 in
    let P = IsInQuestion c.args.root core.world.kept in
    let most = c.one_at_least.result in
    let items = c.in-Ok.listed.items in
    let room = room_or_full core.world (c.is_full.ensures.room c.if-is_full.false) in
    let some = empty_not (reverse items) _ (c.in-Ok.listed.ok.0 ∙ sym (length-reverse items)) (sym c.is_empty.ensures ∙ c.if-is_empty.false) in
    let one = some_member (reverse items) some in
    let each = last_each P most goals.ready.keys (reverse items) c.in-Ok.ensures one.0 one.1 in
    record { unstopped = record { unfailed = unfailed; unspied = unspied }; room = room; goal = one.0; is_ready = is_ready_one core.world core.notes core.untried c.stands.ensures.orderly.acyclic c.stands.ensures.exact c.requires c.args.root goals.ready.keys ready_ones one.0 each.0 each.1 }

pub returns-clause-each : goal.returns-clause-each
returns-clause-each c g i =
    let core = c.args.core.now in
    let goals = c.in-Some.goals.now in
    let ready_ones = λ (g : GoalName). subst (λ (notes : NotesByGoal). In g goals.ready.keys ↔ IsNotedAs notes g ready) c.tries.ensures.notes (c.in-Some.ensures.ready g) in
    let P = IsInQuestion c.args.root core.world.kept in
    let most = c.one_at_least.result in
    let items = c.in-Ok.listed.items in
    let each = last_each P most goals.ready.keys (reverse items) c.in-Ok.ensures g (subst (In g) c.reverse.ensures.items i) in
    is_ready_one core.world core.notes core.untried c.stands.ensures.orderly.acyclic c.stands.ensures.exact c.requires c.args.root goals.ready.keys ready_ones g each.0 each.1
