use Rattle.ghc_records.proofs.Words.{◌<◌, sym, subst, Some, IsChangedAt, places_of}
use Rattle.ghc_records.proofs.StrayPlaces.{put_by_itself}
use Rattle.ghc_records.proofs.table.strays.Strays.put.Goals as goal

pub returns : goal.returns
returns c =
    let es = c.self.inside.older.entries in
    let room = subst (λ t. 0 < t.room) (sym c.self.view_is) c.requires in
    subst (λ t. IsChangedAt t.held (places_of (Some (c.args.number, c.args.place)) es) c.args.number (Some c.args.place)) c.self.view_is
    (put_by_itself c.self.inside.newest es c.args.number c.args.place room)
