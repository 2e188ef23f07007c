use Rattle.ghc_records.proofs.Words.{◌∙◌, ap, inl, inr}
use Rattle.ghc_records.proofs.Giving.{gave, put_both}
use Rattle.ghc_records.proofs.table.use_index.UseIndex.put.Goals as goal

pub put_at-requires : goal.put_at-requires
put_at-requires c m e = rw c.number-number.ensures (rw (← c.self.view_is) at (c.requires.taking m (inl e)))

pub put_under-requires : goal.put_under-requires
put_under-requires c m b =
    let all = c.members.ensures.all ∙ c.reads.ensures ∙ ap (λ e. e.reads) c.effect-effect.ensures in
    let given = (gave c.self.inside.binders.held c.args.maker c.args.step.now.effect.reads c.members.result.now all m).1 (inr b) in
    c.put_at.ensures.room m (rw c.number-number.ensures ((rw (← c.self.view_is) at c.requires.taking) m given))

pub returns-clause-users : goal.returns-clause-users
returns-clause-users c =
    let all = c.members.ensures.all ∙ c.reads.ensures ∙ ap (λ e. e.reads) c.effect-effect.ensures in
    let users = c.self.inside.users in
    rw (← c.self.view_is) (put_both c.self.inside.binders.held c.args.maker c.args.step.now.effect.reads c.members.result.now all
    users c.put_at.new.self c.put_under.new.users
    c.number-number.result c.args.step.now.number c.number-number.ensures c.put_at.ensures.users c.put_under.ensures.users)

pub returns-clause-room : goal.returns-clause-room
returns-clause-room c m can =
    rw c.number-number.ensures at (c.put_under.ensures.room m (c.put_at.ensures.room m (rw c.number-number.ensures (rw (← c.self.view_is) at can))))
