use Rattle.ghc_records.proofs.Words.{rules, is_ok, inl, inr, sym, ap, ◌∙◌, subst, cond, ℕ, ◌≡◌, ◌<◌, arith, insert, In, in_get}
use Rattle.ghc_records.proofs.NumberSets.{in_pushed}
use Rattle.ghc_records.proofs.RisingNumbers.{rising_pushed, place_of, place_for, is_absent, rising_inserted, in_inserted, with_present}
use Rattle.ghc_records.proofs.table.rising.put_rising.Goals as goal

pub push_reserved-requires : goal.push_reserved-requires
push_reserved-requires c = elim c.requires.room [
  | inl room ↦ room
  | inr here ↦
      let less = c.is_above.ensures.0 c.if-is_above.true c.args.number (subst (In c.args.number) (sym c.deref.ensures.value) here) in
      absurd (omega (arith, less))
]

pub returns-then-is_above : goal.returns-then-is_above
returns-then-is_above c =
    let xs = c.args.list.now.items in
    let above = subst (λ l. (n : ℕ) → In n l → n < c.args.number) c.deref.ensures.value (c.is_above.ensures.0 c.if-is_above.true) in
    record {
      rising = rw c.push_reserved.ensures.items (rising_pushed xs c.args.number c.requires.rising above);
      numbers = λ n. rw c.push_reserved.ensures.items (in_pushed xs c.args.number n);
      there = λ here. let less = above c.args.number here in absurd {A = c.push_reserved.new.self.items ≡ xs} (omega (arith, less));
      length = search rules;
      capacity = search rules;
    }

pub unwrap-requires : goal.unwrap-requires
unwrap-requires c =
    let place = place_for c.deref-2.result.now c.args.list.now.items c.args.number c.in-Err.place c.deref-2.ensures.value c.requires.rising c.in-Err.ensures.position in
    elim c.requires.room [
      | inl room ↦ c.insert.ensures.succeeds room
      | inr here ↦ absurd (is_absent c.args.list.now.items c.in-Err.place c.args.number c.requires.rising place here)
    ]

pub returns-in-Err : goal.returns-in-Err
returns-in-Err c =
    let xs = c.args.list.now.items in
    let place = place_for c.deref-2.result.now xs c.args.number c.in-Err.place c.deref-2.ensures.value c.requires.rising c.in-Err.ensures.position in
    let new : c.insert.new.self.items ≡ insert xs c.in-Err.place c.args.number =
    c.insert.ensures.items ∙ ap (λ b. cond b (insert xs c.in-Err.place c.args.number) xs) (ap is_ok c.unwrap.ensures) in
    record {
      rising = rw new (rising_inserted xs c.in-Err.place c.args.number c.requires.rising place);
      numbers = λ n. rw new (in_inserted xs c.in-Err.place c.args.number n);
      there = λ here. absurd {A = c.insert.new.self.items ≡ xs} (is_absent xs c.in-Err.place c.args.number c.requires.rising place here);
      length = search rules;
      capacity = search rules;
    }

pub returns-in_default-clause-numbers : goal.returns-in_default-clause-numbers
returns-in_default-clause-numbers c n =
    let place = place_of c.deref-2.result.now c.args.list.now.items c.args.number c.in_default.field-0 c.deref-2.ensures.value c.requires.rising c.in_default.ensures.position in
    with_present c.args.list.now.items c.args.number n (subst (λ k. In k c.args.list.now.items) place.1 (in_get c.args.list.now.items c.in_default.field-0 0 place.0))
