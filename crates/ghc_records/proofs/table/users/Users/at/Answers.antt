use Rattle.ghc_records.proofs.Words.{◌≡◌, ◌<◌, ◌≤◌, length, get_or, ◌∙◌, ap, sym, subst, arith, ltb-false, Some, None, numbers_in}
use Rattle.ghc_records.proofs.NearUsers.{near_at, far_at}
use Rattle.ghc_records.proofs.SlotPlaces.{found_by}
use Rattle.ghc_records.proofs.table.users.Users.at.Goals as goal

pub returns-in-Some : goal.returns-in-Some
returns-in-Some c =
    let found = c.in-Some.users.now in
    let within = subst (λ l. c.args.step < length l) c.deref.ensures.value c.in-Some.ensures.lookup.3.0 in
    let is : found ≡ get_or c.self.inside.near.items c.args.step found = c.in-Some.ensures.lookup.1 ∙ ap (λ l. get_or l c.args.step found) c.deref.ensures.value in
    c.members.ensures ∙ sym (ap numbers_in (near_at c.self.inside.near.items c.self.inside.far.entries c.args.self.now c.args.step c.self.view_is found within is))

pub returns-in-Some-get : goal.returns-in-Some-get
returns-in-Some-get c =
    let past : length c.self.inside.near.items ≤ c.args.step = subst (λ l. length l ≤ c.args.step) c.deref.ensures.value (omega (arith, ltb-false c.args.step (length c.deref.result.now) (sym c.in_default.ensures.lookup.0))) in
    c.members-in-Some-get.ensures
    ∙ sym (ap numbers_in (far_at c.self.inside.near.items c.self.inside.far.entries c.args.self.now c.args.step c.self.view_is (Some c.in-Some-get.users.now) past (c.in-Some-get.ensures.value ∙ found_by c.self.inside.far.entries c.args.step)))

pub returns-in-None : goal.returns-in-None
returns-in-None c =
    let past : length c.self.inside.near.items ≤ c.args.step = subst (λ l. length l ≤ c.args.step) c.deref.ensures.value (omega (arith, ltb-false c.args.step (length c.deref.result.now) (sym c.in_default.ensures.lookup.0))) in
    sym (ap numbers_in (far_at c.self.inside.near.items c.self.inside.far.entries c.args.self.now c.args.step c.self.view_is None past (c.in-None.ensures.value ∙ found_by c.self.inside.far.entries c.args.step)))
