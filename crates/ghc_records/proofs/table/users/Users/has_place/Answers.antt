use Rattle.ghc_records.proofs.Words.{◌≡◌, ◌<◌, length, get_or, ◌∙◌, ap, sym, subst, inl, room_in}
use Rattle.ghc_records.proofs.NearUsers.{near_at}
use Rattle.ghc_records.proofs.table.users.Users.has_place.Goals as goal

pub returns-in-Some : goal.returns-in-Some
returns-in-Some c said n =
    let found = c.in-Some.users.now in
    let within = subst (λ l. c.args.step < length l) c.deref.ensures.value c.in-Some.ensures.lookup.3.0 in
    let is : found ≡ get_or c.self.inside.near.items c.args.step found = c.in-Some.ensures.lookup.1 ∙ ap (λ l. get_or l c.args.step found) c.deref.ensures.value in
    inl (subst (λ o. 0 < room_in o) (sym (near_at c.self.inside.near.items c.self.inside.far.entries c.args.self.now c.args.step c.self.view_is found within is)) (c.has_place.ensures said))
