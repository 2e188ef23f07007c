use Rattle.ghc_records.proofs.Words.{ap, subst, None, IsChangedAt, places_of}
use Rattle.ghc_records.proofs.StrayPlaces.{none_taken, newest_taken, older_taken}
use Rattle.ghc_records.proofs.table.strays.Strays.remove.Goals.{in-Some+then-newest-number, in-Some+else-newest-number, in_default}
use Rattle.ghc_records.proofs.table.strays.Strays.remove.Goals as goal

pub returns : goal.returns
returns c =
    let was = c.self.inside in
    let left = c.match-self.self-inside in
    let new = c.remove.new.self.entries in
    let n = c.args.number in
    let gone = c.remove.ensures.updates.0 in
    subst (λ t. IsChangedAt t.held (places_of left.newest new) n None) c.self.view_is (elim c.match-self.branch [
      | in-Some+then-newest-number w ↦
          newest_taken was.newest left.newest was.older.entries left.older.entries new n (ap (λ s. s.older.entries) w.self-inside-is) gone
          _ w.in-Some.is w.if-newest-number.true (ap (λ s. s.newest) w.self-inside-is)
      | in-Some+else-newest-number w ↦
          older_taken was.newest left.newest was.older.entries left.older.entries new n (ap (λ s. s.older.entries) w.self-inside-is) gone
          _ w.in-Some.is w.if-newest-number.false (ap (λ s. s.newest) w.self-inside-is)
      | in_default w ↦
          none_taken was.newest left.newest was.older.entries left.older.entries new n (ap (λ s. s.older.entries) w.self-inside-is) gone
          w.in_default.is (ap (λ s. s.newest) w.self-inside-is)
    ])
