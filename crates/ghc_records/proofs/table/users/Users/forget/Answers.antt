use Rattle.ghc_records.proofs.Words.{refl, subst, arith, Some, None, slice_set, vec_len, In, users_in}
use Rattle.std.specs.FinMap as finite
use Rattle.ghc_records.proofs.StepUsers.{users_forgotten}
use Rattle.ghc_records.proofs.NearUsers.{past, near_written, far_gone}
use Rattle.ghc_records.proofs.SlotPlaces.{updated_by}
use Rattle.ghc_records.proofs.table.users.Users.forget.Goals as goal

pub returns-in-Some : goal.returns-in-Some
returns-in-Some c =
    let w = c.new.result in
    let d = near_written c.self.inside.near.items c.self.inside.far.entries c.args.self.now c.args.step c.self.view_is c.in-Some.users.now w (omega (arith, c.in-Some.ensures.variant.0 refl, c.self.inside.near.ok.0)) c.in-Some.ensures.value in
    users_forgotten c.args.self.now (users_in (slice_set c.self.inside.near.items c.args.step w) c.self.inside.far.entries) c.args.step (Some c.in-Some.users.now) (Some w) d (λ k i. subst (In k) c.new.ensures.held i)

pub returns : goal.returns
returns c =
    let es = c.remove.new.self.entries in
    let d = far_gone c.self.inside.near.items c.self.inside.far.entries c.args.self.now c.args.step c.self.view_is es (past c.args.step (vec_len c.self.inside.near) c.self.inside.near.items c.self.inside.near.ok.0 c.in_default.ensures.variant.1) (updated_by c.self.inside.far.entries es c.args.step None c.remove.ensures.updates.0) in
    users_forgotten c.args.self.now (users_in c.self.inside.near.items es) c.args.step (finite.get c.args.self.now c.args.step) None d (λ k i. i)
