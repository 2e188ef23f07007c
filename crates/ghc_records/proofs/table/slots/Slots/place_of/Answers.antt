use Rattle.ghc_records.proofs.Words.{◌≡◌, ◌+◌, ℕ, ◌∙◌, ap, subst, sym, ◌↔◌, Some, None, HasNumberIn}
use Rattle.ghc_records.proofs.SlotStrays.{found_below, found_stray}
use Rattle.ghc_records.proofs.table.slots.Slots.place_of.Goals as goal

pub returns-in-Some : goal.returns-in-Some
returns-in-Some c p =
    let held = ap (λ t. t.held) c.self.view_is in
    let here = ((c.likely_place_of.ensures c.in-Some.place).0 c.in-Some.is).0 in
    subst (λ l. (Some c.in-Some.place ≡ Some p) ↔ HasNumberIn l p c.args.number) held
    (found_below c.self.inside.slots.items c.in-Some.place c.args.number c.self.invariant.0 (subst (λ l. HasNumberIn l c.in-Some.place c.args.number) (sym held) here) p)

pub returns : goal.returns
returns c p =
    let ss = c.self.inside.slots.items in
    let held = ap (λ t. t.held) c.self.view_is in
    let none : (q : ℕ) → q + 1 ≡ c.args.number → ¬ HasNumberIn ss q c.args.number = λ q below w.
    let clash : None ≡ Some q = sym c.in_default.is ∙ (c.likely_place_of.ensures q).1 (subst (λ l. HasNumberIn l q c.args.number) held w, below) in cc in
    subst (λ l. (c.get.result ≡ Some p) ↔ HasNumberIn l p c.args.number) held
    (subst (λ o. (o ≡ Some p) ↔ HasNumberIn ss p c.args.number) (sym c.get.ensures) (found_stray ss c.self.inside.strays.held c.args.number c.self.invariant.2 none p))
