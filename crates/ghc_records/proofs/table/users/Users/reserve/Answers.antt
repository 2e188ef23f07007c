use Rattle.ghc_records.proofs.Words.{length, ◌<◌, ◌≡◌, ℕ, cond, ap, refl, sym, ◌∙◌, subst, nat_eq, arith, lookup, IsSome, Some, None, slice_set, vec_len, on_ok_weaker, CanTake, users_in}
use Rattle.ghc_records.proofs.StepUsers.{users_kept, can_kept, can_take}
use Rattle.ghc_records.proofs.NearUsers.{past, near_written, far_written}
use Rattle.ghc_records.proofs.SlotPlaces.{found_by, updated_by}
use Rattle.ghc_records.proofs.table.users.Users.reserve.Goals as goal

pub returns-in-Some : goal.returns-in-Some
returns-in-Some c =
    let w = c.reserve.new.self in
    let was = Some c.in-Some.users.now in
    let m0 = c.widen.new.self in
    let new = users_in (slice_set c.self.inside.near.items c.args.step w) c.self.inside.far.entries in
    let near = c.self.inside.near.items in
    let within : c.args.step < length near = omega (arith, c.in-Some.ensures.variant.0 refl, c.self.inside.near.ok.0) in
    let d = near_written near c.self.inside.far.entries m0 c.args.step c.self.view_is c.in-Some.users.now w within c.in-Some.ensures.value in
    record {
      held = λ m. users_kept m0 new c.args.step was (Some w) d c.reserve.ensures.held m ∙ c.in_ok-widen.ensures.held m;
      room = on_ok_weaker c.reserve.result (can_take m0 new c.args.step was (Some w) d) c.reserve.ensures.room;
      kept = λ m n can. can_kept m0 new c.args.step was (Some w) d c.reserve.ensures.held c.reserve.ensures.kept m n (c.in_ok-widen.ensures.kept m n can);
    }

pub returns-in-Some-get_mut : goal.returns-in-Some-get_mut
returns-in-Some-get_mut c =
    let put = c.reserve-in-Some-get_mut in
    let w = put.new.self in
    let was = Some c.in-Some-get_mut.users.now in
    let near = c.self.inside.near.items in
    let m0 = c.widen.new.self in
    let updates = (c.get_mut-2.follows.holds w).3 (subst IsSome c.in-Some-get_mut.ensures.value refl) in
    let es = (c.get_mut-2.follows.lender w).entries in
    let new = users_in near es in
    let behind = past c.args.step (vec_len c.self.inside.near) near c.self.inside.near.ok.0 c.in_default.ensures.variant.1 in
    let d = far_written near c.self.inside.far.entries m0 c.args.step c.self.view_is es behind was w (c.in-Some-get_mut.ensures.value ∙ found_by c.self.inside.far.entries c.args.step) (updated_by c.self.inside.far.entries es c.args.step (Some w) updates.0) in
    record {
      held = λ m. users_kept m0 new c.args.step was (Some w) d put.ensures.held m ∙ c.in_ok-widen.ensures.held m;
      room = on_ok_weaker put.result (can_take m0 new c.args.step was (Some w) d) put.ensures.room;
      kept = λ m n can. can_kept m0 new c.args.step was (Some w) d put.ensures.held put.ensures.kept m n (c.in_ok-widen.ensures.kept m n can);
    }

pub returns-in_err-reserve-clause-kept : goal.returns-in_err-reserve-clause-kept
returns-in_err-reserve-clause-kept c m n can =
    let same = ap (λ t. t.entries) c.get_mut-2.follows.holds-at-none in
    subst (λ u. CanTake u m n) (sym (ap (users_in c.self.inside.near.items) same ∙ c.self.view_is)) (c.in_ok-widen.ensures.kept m n can)

pub returns-in_err-insert-clause-kept : goal.returns-in_err-insert-clause-kept
returns-in_err-insert-clause-kept c m n can =
    let same = c.in_err-insert.ensures.err ∙ ap (λ t. t.entries) c.get_mut-2.follows.holds-at-none in
    subst (λ u. CanTake u m n) (sym (ap (users_in c.self.inside.near.items) same ∙ c.self.view_is)) (c.in_ok-widen.ensures.kept m n can)

pub returns : goal.returns
returns c =
    let w = c.reserve-2.new.self in
    let near = c.self.inside.near.items in
    let m0 = c.widen.new.self in
    let same = ap (λ t. t.entries) c.get_mut-2.follows.holds-at-none in
    let es = c.insert.new.self.entries in
    let new = users_in near es in
    let updates = subst (λ l. (q : ℕ) → lookup (nat_eq q) es ≡ cond (nat_eq c.args.step q) (Some w) (lookup (nat_eq q) l)) same (updated_by c.get_mut-2.follows.lender-at-none.entries es c.args.step (Some w) c.in_ok-insert.ensures.updates.0) in
    let behind = past c.args.step (vec_len c.self.inside.near) near c.self.inside.near.ok.0 c.in_default.ensures.variant.1 in
    let d = far_written near c.self.inside.far.entries m0 c.args.step c.self.view_is es behind None w (c.in_default-get_mut.ensures.value ∙ found_by c.self.inside.far.entries c.args.step) updates in
    let held = c.reserve-2.ensures.held ∙ c.new-users.ensures.held in
    record {
      held = λ m. users_kept m0 new c.args.step None (Some w) d held m ∙ c.in_ok-widen.ensures.held m;
      room = can_take m0 new c.args.step None (Some w) d c.in_ok-reserve.ensures.room;
      kept = λ m n can. can_kept m0 new c.args.step None (Some w) d held (omega arith) m n (c.in_ok-widen.ensures.kept m n can);
    }
