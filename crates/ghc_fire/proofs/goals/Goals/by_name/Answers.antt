use Rattle.ghc_fire.proofs.Words.{take, get_or, sym, ap, ◌∙◌, list_any, eq_by_cmp, take_more, take_all, GoalName, in_names, goal_cmp}
use Rattle.std.specs.FinMap as finite
use Rattle.std.specs.FinSet as set
use Rattle.ghc_fire.proofs.Gathering.{none_met, one_more, none_more, gathered}
use Rattle.ghc_fire.proofs.GoalNames.{goal_total, goal_antisymmetric}
use Rattle.ghc_fire.proofs.goals.Goals.by_name.Goals as goal
use Rattle.ghc_fire.proofs.goals.Goals.by_name.Goals.{in-Some+in_ok-insert, in_default}

pub loop-name-init : goal.loop-name-init
loop-name-init c = none_met goal_total goal_antisymmetric (λ t. t.now) c.args.self.now.held c.new-goals.result.entries c.new-goals.ensures.empty

pub loop-name-preserved : goal.loop-name-preserved
loop-name-preserved c =
    let ks = c.names-name-items.result.now in
    let i = c.loop-name.name-index in
    let none : GoalName = record { step = 0; place = 0 } in
    let name : GoalName = get_or ks i none in
    let held = c.args.self.now.held in
    let more = take_more ks i none c.loop-name-test.true in
    elim c.match-get.branch [
      | in-Some+in_ok-insert w ↦ rw (w.goals-is, more)
          (one_more goal_total goal_antisymmetric (λ t. t.now) held (take i ks) c.loop-name.goals.entries c.loop-name.invariant name w.insert.new.self.entries
          w.in-Some.goal (sym w.in-Some.ensures) w.in_ok-insert.ensures.updates.0)
      | in_default w ↦ rw (w.goals-is, more)
          (none_more goal_total goal_antisymmetric (λ t. t.now) held (take i ks) c.loop-name.goals.entries
          c.loop-name.invariant name (sym w.in_default.ensures))
    ]

pub returns : goal.returns
returns c =
    let ks = c.names-name-items.result.now in
    let held = c.args.self.now.held in
    gathered goal_total goal_antisymmetric (λ t. t.now) held (take c.loop-name.name-index ks) c.loop-name.goals.entries c.loop-name.invariant
    (λ q.
    ap (λ l. list_any (eq_by_cmp goal_cmp q) l) (take_all c.loop-name.name-index ks c.loop-name-test.false) ∙ sym (set.contains-from_list goal_total ks q)
    ∙ ap (λ s. set.contains s q) c.names-name-items.ensures.all ∙ in_names c.self.inside.map.held q ∙ ap (λ t. finite.contains_key t.held q) c.self.view_is)
    c.len-count.ensures.ordered
