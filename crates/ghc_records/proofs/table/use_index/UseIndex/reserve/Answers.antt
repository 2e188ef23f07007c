use Rattle.ghc_records.proofs.Words.{◌∙◌, ap, Result, Ok, Err, OnOk, Effect}
use Rattle.ghc_records.proofs.Giving.{can_both}
use Rattle.ghc_records.proofs.table.use_index.UseIndex.reserve.Goals as goal

pub returns-in_err-reserve_at-clause-users_kept : goal.returns-in_err-reserve_at-clause-users_kept
returns-in_err-reserve_at-clause-users_kept c m n can = c.reserve_at.ensures.kept m n (rw (← c.self.view_is) at can)

pub returns-in_err-reserve_under-clause-users_kept : goal.returns-in_err-reserve_under-clause-users_kept
returns-in_err-reserve_under-clause-users_kept c m n can = c.reserve_under.ensures.kept m n (c.reserve_at.ensures.kept m n (rw (← c.self.view_is) at can))

pub returns-clause-users_kept : goal.returns-clause-users_kept
returns-clause-users_kept c m n can = c.reserve_under.ensures.kept m n (c.reserve_at.ensures.kept m n (rw (← c.self.view_is) at can))

on_ok : {X E P : Type 0} (r : Result X E) → P → OnOk r P
on_ok (Ok v) p = p
on_ok (Err e) p = tt

pub returns-clause-taking : goal.returns-clause-taking
returns-clause-taking c =
    let all = c.members.ensures.all ∙ c.reads.ensures ∙ ap (λ (e : Effect). e.reads) c.effect-effect.ensures in
    on_ok c.reserve.result (rw (← c.self.view_is)
    (can_both c.self.inside.binders.held c.args.maker c.args.step.now.effect.reads c.members.result.now all c.reserve_under.new.users
    (λ m n e. c.reserve_under.ensures.kept m n (c.in_ok-reserve_at.ensures.room m n e)) c.in_ok-reserve_under.ensures.room))
