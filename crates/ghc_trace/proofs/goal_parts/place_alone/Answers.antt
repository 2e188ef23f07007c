use Rattle.std.specs.Prelude.{IfSome}
use Rattle.ghc_trace.proofs.Words.{◌≡◌, ℕ, Some, None, Option, ap, sym, ◌∙◌, subst, inl, inr, option_copied, AreDistinct, HasNumberIn, In, Record, StandsIn, held_in, in_inserted, numbers, once_of, record_once, same_value, stands_held}
use Rattle.ghc_trace.proofs.Explained.{some_there}
use Rattle.ghc_trace.proofs.goal_parts.place_alone.Goals as goal

pub returns-in_default : goal.returns-in_default
returns-in_default c p = (
  λ i. absurd (subst (In p) c.new-places.ensures.empty i),
  λ q. let clash : None ≡ Some q.0 = sym (ap option_copied c.in_default.is) ∙ q.2 in cc,
)

pub unwrap-place-requires : goal.unwrap-place-requires
unwrap-place-requires c = some_there c.place_of.result _ c.place_of.ensures.none (λ none. none c.in-Some.one.now (c.requires c.in-Some.one.now (ap option_copied c.in-Some.is)) (sym c.number.ensures))

pub returns-in-Ok : goal.returns-in-Ok
returns-in-Ok c p =
    let ss = c.args.records.now.slots in
    let one = c.in-Some.one.now in
    let place = c.unwrap-place.result in
    let slots = c.len-count.ensures.slots in
    let distinct = subst (λ l. AreDistinct (numbers l)) slots c.len-count.ensures.distinct in
    let there = subst (In one) slots (c.requires one (ap option_copied c.in-Some.is)) in
    let has = subst (λ (o : Option ℕ). IfSome o (λ k. HasNumberIn ss k c.number.result)) c.unwrap-place.ensures c.place_of.ensures.found in
    let same : has.0 ≡ one = record_once (held_in ss) has.0 one distinct (stands_held ss place has.0 has.1) there (has.2 ∙ c.number.ensures) in
    let put = in_inserted c.new-places.result.keys place p in (
      λ i. elim (put.0 (subst (In p) c.in-Ok.ensures.keys i)) [
        | inl j ↦ absurd (subst (In p) c.new-places.ensures.empty j)
        | inr e ↦ (one, subst (λ k. StandsIn ss k one) (sym e) (subst (StandsIn ss place) same has.1), ap option_copied c.in-Some.is)
      ],
      λ q.
          let r : one ≡ q.0 = same_value (ap option_copied c.in-Some.is) q.2 in
          subst (In p) (sym c.in-Ok.ensures.keys) (put.1 (inr (once_of ss distinct p place q.0 has.0 q.1 has.1 (ap (λ (z : Record). z.number) (sym (same ∙ r)))))),
    )
