use Rattle.ghc_records.proofs.Words.{length, ◌<◌, ◌⊎◌, ◌∙◌, refl, subst, inr, arith, IsSome, Some, None, slice_set, vec_len, In, users_in, numbers_in, room_in}
use Rattle.ghc_records.proofs.StepUsers.{user_put, can_still, can_not}
use Rattle.ghc_records.proofs.NearUsers.{past, near_at, far_at, near_written, far_written}
use Rattle.ghc_records.proofs.SlotPlaces.{found_by, updated_by}
use Rattle.ghc_records.proofs.table.users.Users.put.Goals as goal

pub put-requires : goal.put-requires
put-requires c =
    let was = near_at c.self.inside.near.items c.self.inside.far.entries c.args.self.now c.args.step c.self.view_is c.in-Some.users.now (omega (arith, c.in-Some.ensures.variant.0 refl, c.self.inside.near.ok.0)) c.in-Some.ensures.value in
    subst (λ o. (0 < room_in o) ⊎ In c.args.user (numbers_in o)) was c.requires

pub returns-in-Some : goal.returns-in-Some
returns-in-Some c =
    let w = c.put.new.self in
    let was = Some c.in-Some.users.now in
    let m0 = c.args.self.now in
    let new = users_in (slice_set c.self.inside.near.items c.args.step w) c.self.inside.far.entries in
    let near = c.self.inside.near.items in
    let within : c.args.step < length near = omega (arith, c.in-Some.ensures.variant.0 refl, c.self.inside.near.ok.0) in
    let d = near_written near c.self.inside.far.entries m0 c.args.step c.self.view_is c.in-Some.users.now w within c.in-Some.ensures.value in
    record {
      users = user_put m0 new c.args.step was (Some w) d c.args.user c.put.ensures.numbers;
      room = can_still m0 new c.args.step was (Some w) d c.args.user ((c.put.ensures.numbers c.args.user).1 (inr refl));
    }

pub returns-in_default-get_mut-clause-users : goal.returns-in_default-get_mut-clause-users
returns-in_default-get_mut-clause-users c =
    let none = far_at c.self.inside.near.items c.self.inside.far.entries c.args.self.now c.args.step c.self.view_is None (past c.args.step (vec_len c.self.inside.near) c.self.inside.near.items c.self.inside.near.ok.0 c.in_default.ensures.variant.1) (c.in_default-get_mut.ensures.value ∙ found_by c.self.inside.far.entries c.args.step) in
    absurd (can_not c.args.self.now c.args.step c.args.user none c.requires)

pub put-requires-2 : goal.put-requires-2
put-requires-2 c =
    let was = far_at c.self.inside.near.items c.self.inside.far.entries c.args.self.now c.args.step c.self.view_is (Some c.in-Some-get_mut.users.now) (past c.args.step (vec_len c.self.inside.near) c.self.inside.near.items c.self.inside.near.ok.0 c.in_default.ensures.variant.1) (c.in-Some-get_mut.ensures.value ∙ found_by c.self.inside.far.entries c.args.step) in
    subst (λ o. (0 < room_in o) ⊎ In c.args.user (numbers_in o)) was c.requires

pub returns : goal.returns
returns c =
    let w = c.put-2.new.self in
    let was = Some c.in-Some-get_mut.users.now in
    let near = c.self.inside.near.items in
    let m0 = c.args.self.now in
    let updates = (c.get_mut-2.follows.holds w).3 (subst IsSome c.in-Some-get_mut.ensures.value refl) in
    let es = (c.get_mut-2.follows.lender w).entries in
    let behind = past c.args.step (vec_len c.self.inside.near) near c.self.inside.near.ok.0 c.in_default.ensures.variant.1 in
    let d = far_written near c.self.inside.far.entries m0 c.args.step c.self.view_is es behind was w (c.in-Some-get_mut.ensures.value ∙ found_by c.self.inside.far.entries c.args.step) (updated_by c.self.inside.far.entries es c.args.step (Some w) updates.0) in
    record {
      users = user_put m0 (users_in near es) c.args.step was (Some w) d c.args.user c.put-2.ensures.numbers;
      room = can_still m0 (users_in near es) c.args.step was (Some w) d c.args.user ((c.put-2.ensures.numbers c.args.user).1 (inr refl));
    }
