use Rattle.ghc_records.proofs.Words.{◌≡◌, ◌≢◌, ◌+◌, ◌∙◌, length, ap, arith, sym, subst, Some, In, Record, held_in, IsChangedAt}
use Rattle.ghc_records.proofs.SlotLemmas.{held_few, held_more, more_distinct}
use Rattle.ghc_records.proofs.SlotStrays.{strays_same, strays_one}
use Rattle.ghc_records.proofs.table.slots.Slots.put.Goals.{then-not-is_just_below, else-not-is_just_below}
use Rattle.ghc_records.proofs.table.slots.Slots.put.Goals as goal

pub overflow_add-self : goal.overflow_add-self
overflow_add-self c =
    let few = held_few c.self.inside.slots.items in
    elim c.if-not-is_just_below.branch [
      | then-not-is_just_below w ↦ rw w.self-inside-is (omega (arith, few, c.self.invariant.1, c.self.inside.slots.ok, c.self.inside.slots.small))
      | else-not-is_just_below w ↦ rw w.self-inside-is (omega (arith, few, c.self.invariant.1, c.self.inside.slots.ok, c.self.inside.slots.small))
    ]

pub invariant_of-self : goal.invariant_of-self
invariant_of-self c =
    let ss = c.self.inside.slots.items in
    let old = c.self.inside.strays.held in
    let s = c.args.step in
    let fresh = subst (λ l. (r : Record) → In r (held_in l) → r.number ≢ s.number) (sym (ap (λ t. t.held) c.self.view_is)) c.requires.new in
    let place : c.len-place.result ≡ length ss = c.len-place.ensures ∙ c.self.inside.slots.ok.0 in
    let slots = c.push_reserved.ensures.items in
    let (once, count, strays) = c.self.invariant in
    let distinct = more_distinct ss s once fresh in
    let more = held_more ss s in
    elim c.if-not-is_just_below.branch [
      | then-not-is_just_below w ↦
          let new = w.put.new.self.held in
          let named = subst (λ k. IsChangedAt old new k (Some c.len-place.result)) w.number-then-not-is_just_below.ensures w.put.ensures in
          let other : length ss + 1 ≢ s.number = λ below. let just = c.is_just_below.ensures.1 (ap (λ i. i + 1) place ∙ below ∙ sym c.number.ensures) in cc in
          rw (slots, w.self-inside-is)
          (distinct, omega (arith, count, more), strays_one ss old new s c.len-place.result strays fresh place other named)
      | else-not-is_just_below w ↦
          let below = ap (λ i. i + 1) (sym place) ∙ c.is_just_below.ensures.0 w.if-not-is_just_below.false ∙ c.number.ensures in
          rw (slots, w.self-inside-is) (distinct, omega (arith, count, more), strays_same ss old s strays fresh below)
    ]
