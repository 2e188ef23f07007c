use Rattle.ghc_records.proofs.Words.{rules, ◌≡◌, filter, length, ap, sym, ◌∙◌, subst, is_some, filter_same, AreDistinct, numbers, held_in, AreStraysOf}
use Rattle.ghc_records.proofs.SlotLemmas.{held_closed}
use Rattle.ghc_records.proofs.table.slots.Slots.close_up.Goals as goal

pub strays_when_closed-requires : goal.strays_when_closed-requires
strays_when_closed-requires c = subst (λ l. AreDistinct (numbers (held_in l))) (sym c.as_slice.ensures.value) c.self.invariant.0

pub invariant_of-self : goal.invariant_of-self
invariant_of-self c =
    let ss = c.self.inside.slots.items in
    let closed : c.retain.new.self.items ≡ filter is_some ss = filter_same _ _ _ (λ x b f k. search rules) _ _ c.retain.ensures.filtered in
    let same : held_in ss ≡ held_in c.retain.new.self.items = sym (ap held_in closed ∙ held_closed ss) in
    let strays_are = subst (λ l. AreStraysOf (filter is_some l) c.in-Ok.strays.held) c.as_slice.ensures.value c.in-Ok.ensures in (
      subst (λ l. AreDistinct (numbers l)) same c.self.invariant.0,
      c.self.invariant.1 ∙ ap length same,
      subst (λ l. AreStraysOf l c.in-Ok.strays.held) (sym closed) strays_are,
    )

pub returns : goal.returns
returns c =
    let ss = c.self.inside.slots.items in
    let closed : c.retain.new.self.items ≡ filter is_some ss = filter_same _ _ _ (λ x b f k. search rules) _ _ c.retain.ensures.filtered in
    ap held_in closed ∙ held_closed ss ∙ ap (λ t. held_in t.held) c.self.view_is
