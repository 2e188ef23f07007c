use Rattle.ghc_records.proofs.Words.{ap, ◌∙◌, refl, subst, arith, IsSome, Some, None, slice_set, vec_len, users_in}
use Rattle.ghc_records.proofs.StepUsers.{user_taken}
use Rattle.ghc_records.proofs.NearUsers.{past, near_written, far_written, far_unchanged}
use Rattle.ghc_records.proofs.SlotPlaces.{found_by, updated_by}
use Rattle.ghc_records.proofs.table.users.Users.take.Goals as goal

pub returns-in-Some : goal.returns-in-Some
returns-in-Some c =
    let w = c.remove.new.self in
    let d = near_written c.self.inside.near.items c.self.inside.far.entries c.args.self.now c.args.step c.self.view_is c.in-Some.users.now w (omega (arith, c.in-Some.ensures.variant.0 refl, c.self.inside.near.ok.0)) c.in-Some.ensures.value in
    user_taken c.args.self.now (users_in (slice_set c.self.inside.near.items c.args.step w) c.self.inside.far.entries) c.args.step (Some c.in-Some.users.now) (Some w) d c.args.user c.remove.ensures

pub returns-in_default-get_mut : goal.returns-in_default-get_mut
returns-in_default-get_mut c =
    let es = c.get_mut-2.follows.lender-at-none.entries in
    let d = far_unchanged c.self.inside.near.items c.self.inside.far.entries c.args.self.now c.args.step c.self.view_is es (past c.args.step (vec_len c.self.inside.near) c.self.inside.near.items c.self.inside.near.ok.0 c.in_default.ensures.variant.1) (c.in_default-get_mut.ensures.value ∙ found_by c.self.inside.far.entries c.args.step) (ap (λ t. t.entries) c.get_mut-2.follows.holds-at-none) in
    user_taken c.args.self.now (users_in c.self.inside.near.items es) c.args.step None None d c.args.user (λ k. (λ i. absurd i, λ i. absurd i.0))

pub returns : goal.returns
returns c =
    let w = c.remove-2.new.self in
    let updates = (c.get_mut-2.follows.holds w).3 (subst IsSome c.in-Some-get_mut.ensures.value refl) in
    let es = (c.get_mut-2.follows.lender w).entries in
    let d = far_written c.self.inside.near.items c.self.inside.far.entries c.args.self.now c.args.step c.self.view_is es (past c.args.step (vec_len c.self.inside.near) c.self.inside.near.items c.self.inside.near.ok.0 c.in_default.ensures.variant.1) (Some c.in-Some-get_mut.users.now) w (c.in-Some-get_mut.ensures.value ∙ found_by c.self.inside.far.entries c.args.step) (updated_by c.self.inside.far.entries es c.args.step (Some w) updates.0) in
    user_taken c.args.self.now (users_in c.self.inside.near.items es) c.args.step (Some c.in-Some-get_mut.users.now) (Some w) d c.args.user c.remove-2.ensures
