use Rattle.ghc_records.proofs.Words.{◌≡◌, ◌≢◌, ◌<◌, ◌∙◌, ap, sym, subst, arith, Some, None, IfNone, slice_set, slice_get_within, get_or_from_slice_get, In, Record, held_in, StandsIn, HasNumberIn}
use Rattle.ghc_records.proofs.SlotLemmas.{held_fewer, without_distinct}
use Rattle.ghc_records.proofs.SlotClosing.{none_in}
use Rattle.ghc_records.proofs.SlotStrays.{gap_same, gap_one}
use Rattle.ghc_records.proofs.table.slots.Slots.take_out.Goals.{then-not-is_just_below, else-not-is_just_below}
use Rattle.ghc_records.proofs.table.slots.Slots.take_out.Goals as goal

pub returns-in_err-place-clause-none : goal.returns-in_err-place-clause-none
returns-in_err-place-clause-none c =
    subst (λ o. IfNone o ((r : Record) → In r (held_in c.args.self.now.held) → r.number ≢ c.args.number)) (sym c.from_residual.ensures)
    (none_in c.args.self.now.held c.args.number c.place_of.result c.in_err-place.was c.place_of.ensures)

pub returns-in_err-place-clause-gap : goal.returns-in_err-place-clause-gap
returns-in_err-place-clause-gap c p has = let clash : None ≡ Some p = sym c.in_err-place.was ∙ (c.place_of.ensures p).1 has in cc

pub index_mut-requires : goal.index_mut-requires
index_mut-requires c =
    let here = (c.place_of.ensures c.in_ok-place.place).0 c.in_ok-place.was in
    let stands = subst (λ l. StandsIn l c.in_ok-place.place here.0) (sym (ap (λ t. t.held) c.self.view_is)) here.1 in
    subst (λ n. c.in_ok-place.place < n) (sym c.self.inside.slots.ok.0) (slice_get_within c.self.inside.slots.items c.in_ok-place.place (Some here.0) stands)

pub overflow_sub-self : goal.overflow_sub-self
overflow_sub-self c =
    let here = (c.place_of.ensures c.in_ok-place.place).0 c.in_ok-place.was in
    let stands = subst (λ l. StandsIn l c.in_ok-place.place here.0) (sym (ap (λ t. t.held) c.self.view_is)) here.1 in
    let fewer = held_fewer c.self.inside.slots.items c.in_ok-place.place here.0 stands in
    elim c.if-not-is_just_below.branch [
      | then-not-is_just_below w ↦ rw w.self-inside-is (omega (arith, c.self.invariant.1, fewer))
      | else-not-is_just_below w ↦ rw w.self-inside-is (omega (arith, c.self.invariant.1, fewer))
    ]

pub invariant_of-self : goal.invariant_of-self
invariant_of-self c =
    let ss = c.self.inside.slots.items in
    let old = c.self.inside.strays.held in
    let place = c.in_ok-place.place in
    let n = c.args.number in
    let (once, count, strays) = c.self.invariant in
    let here : HasNumberIn ss place n = subst (λ l. HasNumberIn l place n) (sym (ap (λ t. t.held) c.self.view_is)) ((c.place_of.ensures place).0 c.in_ok-place.was) in
    let distinct = without_distinct ss place here.0 once here.1 in
    let fewer = held_fewer ss place here.0 here.1 in
    elim c.if-not-is_just_below.branch [
      | then-not-is_just_below w ↦
          let strays_are = gap_one ss old w.remove.new.self.held place n once strays here w.remove.ensures in
          rw (w.self-inside-is, c.replace-removed.ensures.after) (distinct, omega (arith, count, fewer), strays_are)
      | else-not-is_just_below w ↦
          let strays_are = gap_same ss old place n once strays here (c.is_just_below.ensures.0 w.if-not-is_just_below.false) in
          rw (w.self-inside-is, c.replace-removed.ensures.after) (distinct, omega (arith, count, fewer), strays_are)
    ]

pub returns : goal.returns
returns c =
    let ss = c.self.inside.slots.items in
    let place = c.in_ok-place.place in
    let here = (c.place_of.ensures place).0 c.in_ok-place.was in
    let stands = subst (λ l. StandsIn l place here.0) (sym (ap (λ t. t.held) c.self.view_is)) here.1 in
    let is : c.replace-removed.result ≡ Some here.0 =
    c.replace-removed.ensures.value ∙ c.index_mut.ensures.value ∙ get_or_from_slice_get ss place (Some here.0) c.index_mut.result.now stands in
    let emptied : c.if-not-is_just_below.self-inside.slots.items ≡ slice_set ss place None = elim c.if-not-is_just_below.branch [
      | then-not-is_just_below w ↦ ap (λ t. t.slots.items) w.self-inside-is
      | else-not-is_just_below w ↦ ap (λ t. t.slots.items) w.self-inside-is
    ] ∙ ap (λ o. slice_set ss place o) c.replace-removed.ensures.after in
    record {
      taken = rw is (place, here.1, here.2);
      gap = λ p has.
          let one : place ≡ p = let same = sym c.in_ok-place.was ∙ (c.place_of.ensures p).1 has in cc in
          emptied ∙ ap (λ i. slice_set ss i None) one ∙ ap (λ t. slice_set t.held p None) c.self.view_is;
      none = rw is tt;
      none_left = rw is tt;
    }
