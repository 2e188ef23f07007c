use Rattle.ghc_records.proofs.Words.{◌≡◌, ◌∙◌, ap, IsUser, Gave, step_named}
use Rattle.ghc_records.proofs.Giving.{taken_both, forgotten_too}
use Rattle.ghc_records.proofs.table.use_index.UseIndex.take_out.Goals as goal

pub returns-clause-users : goal.returns-clause-users
returns-clause-users c =
    let all = c.members.ensures.all ∙ c.reads.ensures ∙ ap (λ e. e.reads) c.effect-effect.ensures in
    let reads = c.args.step.now.effect.reads in
    let number = c.args.step.now.number in
    let maker = step_named c.args.step.now.goal in
    let u = c.number-number.result in
    let old = c.self.inside.users in
    let binders = c.self.inside.binders.held in
    rw (← c.self.view_is) (forgotten_too c.take_from_under.new.users c.forget.new.self
    (λ m n. IsUser old m n × ¬ (Gave binders maker reads m × (n ≡ number))) u number c.number-number.ensures
    (taken_both binders maker reads c.members.result.now all old c.take_at.new.self c.take_from_under.new.users u number c.number-number.ensures
    (rw (c.step_of_name.ensures, c.goal.ensures) at c.take_at.ensures) c.take_from_under.ensures) c.forget.ensures)
