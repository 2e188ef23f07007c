use Rattle.ghc_records.proofs.Words.{◌≡◌, ◌≢◌, ◌+◌, ℕ, sym, ap, ◌∙◌, subst, arith, ◌↔◌, Option, Some, None, Bor, option_copied, Record, SlotList, StandsIn, HasNumberIn}
use Rattle.ghc_records.proofs.SlotStrays.{just_below}
use Rattle.ghc_records.proofs.table.slots.Slots.likely_place_of.Goals as goal

-- the number stands at the place just below it, and at no other that is
there : (ss : SlotList) (place p n : ℕ) → HasNumberIn ss place n → place + 1 ≡ n → (Some place ≡ Some p) ↔ (HasNumberIn ss p n × (p + 1 ≡ n))
there ss place p n here below = (
  λ e. let same : place ≡ p = cc in (subst (λ q. HasNumberIn ss q n) same here, omega (arith, same, below)),
  λ w. ap Some (let near = w.1 in omega (arith, near, below)),
)

-- or nowhere, where what is found at the place is not of the number
nowhere : (ss : SlotList) (place p n : ℕ) (o : Option (Bor Record)) → ((r : Record) → (option_copied o ≡ Some r) ↔ StandsIn ss place r) → place + 1 ≡ n
    → ((r : Record) → option_copied o ≡ Some r → r.number ≢ n) → (None ≡ Some p) ↔ (HasNumberIn ss p n × (p + 1 ≡ n))
nowhere ss place p n o at below none = (
  λ e. cc,
  λ w.
      let same : p ≡ place = let near = w.1 in omega (arith, near, below) in
      absurd (none w.0.0 ((at w.0.0).1 (subst (λ q. StandsIn ss q w.0.0) same w.0.1)) w.0.2),
)

pub returns-in_err-record : goal.returns-in_err-record
returns-in_err-record c p =
    rw c.from_residual-in_err-record.ensures (nowhere c.args.self.now.held c.in_ok-place.place p c.args.number c.at.result c.at.ensures
    (omega (arith, c.in_ok-place.ensures)) (λ r e. let clash : None ≡ Some r = sym (ap option_copied c.in_err-record.was) ∙ e in cc))

pub returns-then-is_empty : goal.returns-then-is_empty
returns-then-is_empty c p =
    let r = c.in_ok-record.record.now in
    let place = c.in_ok-place.place in
    let stands = (c.at.ensures r).0 (ap option_copied c.in_ok-record.was) in
    let empty = c.is_empty.ensures c.if-is_empty.true in
    let held = subst (λ l. StandsIn l place r) (sym (ap (λ t. t.held) c.self.view_is)) stands in
    let below : place + 1 ≡ r.number = just_below c.self.inside.slots.items c.self.inside.strays.held place r c.self.invariant.2 empty held in
    there c.args.self.now.held place p c.args.number (r, stands, omega (arith, below, c.in_ok-place.ensures)) (omega (arith, c.in_ok-place.ensures))

pub returns-then-number : goal.returns-then-number
returns-then-number c p =
    let r = c.in_ok-record.record.now in
    let here : HasNumberIn c.args.self.now.held c.in_ok-place.place c.args.number = (r, (c.at.ensures r).0 (ap option_copied c.in_ok-record.was), sym c.number.ensures ∙ c.if-number.true) in
    there c.args.self.now.held c.in_ok-place.place p c.args.number here (omega (arith, c.in_ok-place.ensures))

pub returns : goal.returns
returns c p = nowhere c.args.self.now.held c.in_ok-place.place p c.args.number c.at.result c.at.ensures (omega (arith, c.in_ok-place.ensures)) (λ r e is.
    let one : c.in_ok-record.record.now ≡ r = let same = sym (ap option_copied c.in_ok-record.was) ∙ e in cc in
    c.if-number.false (c.number.ensures ∙ ap (λ (z : Record). z.number) one ∙ is))
