use Rattle.ghc_records.proofs.Words.{◌≡◌, ◌≢◌, ◌+◌, ◌++◌, ◌∷◌, [], cond, filter, length, take, refl, sym, ap, ◌∙◌, subst, arith, Some, is_some, append-nil, take_all, slice_get_read, SlotList, AreStraysOf, IsChangedAt}
use Rattle.std.proofs.lemmas.List.{length-append}
use Rattle.ghc_records.proofs.SlotStrays.{strays_none, strays_same, strays_one, closed_more, closed_few, front_apart}
use Rattle.ghc_records.proofs.table.slots.strays_when_closed.Goals.{in-Some, then-not-is_just_below+in_ok-reserve, else-not-is_just_below, in_default}
use Rattle.ghc_records.proofs.table.slots.strays_when_closed.Goals as goal

pub loop-slot-init : goal.loop-slot-init
loop-slot-init c = (refl, strays_none [] c.new-strays.result.held refl c.new-strays.ensures)

pub overflow_add-place : goal.overflow_add-place
overflow_add-place c = omega (arith, closed_few c.args.slots.now c.loop-slot.slot-index, c.loop-slot.invariant.0, c.loop-slot-test.true, c.loop-slot.auto)

pub loop-slot-preserved : goal.loop-slot-preserved
loop-slot-preserved c =
    let ss = c.args.slots.now in
    let i = c.loop-slot.slot-index in
    let old = c.loop-slot.strays.held in
    let seen : SlotList = filter is_some (take i ss) in
    let more = closed_more ss i c.slot-item.result c.loop-slot-test.true c.slot-item.is in
    elim c.match-slot.branch [
      | in-Some w ↦
          let s = w.in-Some.record in
          let next : filter is_some (take (i + 1) ss) ≡ seen ++ Some s ∷ [] = more ∙ ap (λ o. seen ++ cond (is_some o) (o ∷ []) []) w.in-Some.is in
          let stands = slice_get_read ss (length ss) i c.slot-item.result refl c.loop-slot-test.true c.slot-item.is ∙ ap Some w.in-Some.is in
          let fresh = front_apart ss i s c.requires stands in
          let below = ap (λ k. k + 1) (sym c.loop-slot.invariant.0) in
          let strays_are : AreStraysOf (seen ++ Some s ∷ []) w.if-not-is_just_below.strays.held = elim w.if-not-is_just_below.branch [
            | then-not-is_just_below+in_ok-reserve v ↦
                let kept = v.reserve.ensures.held in
                let named = subst (λ k. IsChangedAt v.reserve.new.self.held v.put.new.self.held k (Some c.loop-slot.place)) v.number-then-not-is_just_below.ensures v.put.ensures in
                let placed = subst (λ m. IsChangedAt m v.put.new.self.held s.number (Some c.loop-slot.place)) kept named in
                let other : length seen + 1 ≢ s.number = λ e. let just = w.is_just_below.ensures.1 (sym below ∙ e ∙ sym w.number.ensures) in cc in
                rw v.strays-is (strays_one seen old v.put.new.self.held s c.loop-slot.place c.loop-slot.invariant.1 fresh c.loop-slot.invariant.0 other placed)
            | else-not-is_just_below v ↦
                rw v.strays-is (strays_same seen old s c.loop-slot.invariant.1 fresh (below ∙ w.is_just_below.ensures.0 v.if-not-is_just_below.false ∙ w.number.ensures))
          ] in (
            w.place-is ∙ ap (λ k. k + 1) c.loop-slot.invariant.0 ∙ sym (length-append seen (Some s ∷ [])) ∙ ap length (sym next),
            rw w.strays-is (subst (λ l. AreStraysOf l w.if-not-is_just_below.strays.held) (sym next) strays_are),
          )
      | in_default w ↦
          let next : filter is_some (take (i + 1) ss) ≡ seen = more ∙ ap (λ o. seen ++ cond (is_some o) (o ∷ []) []) w.in_default.is ∙ append-nil seen in (
            w.place-is ∙ c.loop-slot.invariant.0 ∙ ap length (sym next),
            rw w.strays-is (subst (λ l. AreStraysOf l old) (sym next) c.loop-slot.invariant.1),
          )
    ]

pub returns : goal.returns
returns c =
    subst (λ l. AreStraysOf (filter is_some l) c.loop-slot.strays.held) (take_all c.loop-slot.slot-index c.args.slots.now c.loop-slot-test.false) c.loop-slot.invariant.1
