use Rattle.ghc_records.proofs.Words.{◌≡◌, ◌≢◌, ℕ, refl, ◌↔◌, Option, Some, None, IfSome, IfNone, In, Record, SlotList, held_in, HasNumberIn}
use Rattle.ghc_records.proofs.SlotClosing.{none_in}
use Rattle.ghc_records.proofs.records.Records.place_of.Goals as goal

placed : (o : Option ℕ) (ss : SlotList) (n : ℕ) → ((p : ℕ) → (o ≡ Some p) ↔ HasNumberIn ss p n)
    → IfSome o (λ p. HasNumberIn ss p n) × IfNone o ((r : Record) → In r (held_in ss) → r.number ≢ n)
placed None ss n h = (tt, none_in ss n None refl h)
placed (Some p) ss n h = ((h p).0 refl, tt)

pub returns : goal.returns
returns c =
    let found = placed c.place_of.result c.self.inside.slots.held c.args.number c.place_of.ensures in
    record { found = rw (← c.self.view_is) found.0; none = rw (← c.self.view_is) found.1 }
