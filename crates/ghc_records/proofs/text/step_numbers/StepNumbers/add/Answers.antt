use Rattle.ghc_records.proofs.Words.{◌≡◌, ◌<◌, ◌++◌, ◌⊎◌, ◌↔◌, ℕ, true, false, [], ◌∷◌, sym, subst, ◌∙◌, In, in_get, in_left, in_right}
use Rattle.ghc_records.proofs.RisingNumbers.{place_of, place_for, is_absent, rising_pushed}
use Rattle.ghc_records.proofs.StepNumbers.{above_is_new, in_behind, in_front, new_behind, passed_pushed, passed_put}
use Rattle.ghc_records.proofs.text.step_numbers.StepNumbers.add.Goals as goal

pub returns-then-is_above-clause-new : goal.returns-then-is_above-clause-new
returns-then-is_above-clause-new c _ =
    let above = subst (λ l. (n : ℕ) → In n l → n < c.args.number) c.as_slice.ensures.value (c.is_above.ensures.0 c.if-is_above.true) in
    subst (λ l. ¬ In c.args.number l) c.self.view_is (above_is_new c.self.inside.rising.items c.self.inside.others.keys c.args.number c.self.invariant.1 above)

pub returns-then-is_above-clause-numbers : goal.returns-then-is_above-clause-numbers
returns-then-is_above-clause-numbers c _ n =
    let xs = c.self.inside.rising.items in
    let os = c.self.inside.others.keys in
    let k = c.args.number in
    subst (λ l. In n (l ++ os) ↔ (In n c.args.self.now ⊎ (n ≡ k))) (sym c.in_ok-push.ensures.items)
    (subst (λ l. In n ((xs ++ k ∷ []) ++ os) ↔ (In n l ⊎ (n ≡ k))) c.self.view_is (in_front xs os k c.self.invariant.1 n))

pub returns-in-Ok-clause-known : goal.returns-in-Ok-clause-known
returns-in-Ok-clause-known c _ =
    let xs = c.self.inside.rising.items in
    let place = place_of c.deref.result.now xs c.args.number c.in-Ok.field-0 c.deref.ensures.value c.self.invariant.0 c.in-Ok.ensures.position in
    subst (In c.args.number) c.self.view_is
    (in_left xs c.self.inside.others.keys c.args.number (subst (λ k. In k xs) place.1 (in_get xs c.in-Ok.field-0 0 place.0)))

pub returns-clause-known : goal.returns-clause-known
returns-clause-known c e =
    subst (In c.args.number) c.self.view_is (in_right c.self.inside.rising.items c.self.inside.others.keys c.args.number (c.in_ok-new.ensures.known e))

pub invariant_of-self : goal.invariant_of-self
invariant_of-self c = rw c.in_err-push.ensures.items c.self.invariant

pub invariant_of-self-then-is_above : goal.invariant_of-self-then-is_above
invariant_of-self-then-is_above c =
    let xs = c.self.inside.rising.items in
    let k = c.args.number in
    let above = subst (λ l. (n : ℕ) → In n l → n < k) c.as_slice.ensures.value (c.is_above.ensures.0 c.if-is_above.true) in
    rw c.in_ok-push.ensures.items (rising_pushed xs k c.self.invariant.0 above, passed_pushed xs c.self.inside.others.keys k c.self.invariant.1)

pub invariant_of-self-2 : goal.invariant_of-self-2
invariant_of-self-2 c =
    let xs = c.self.inside.rising.items in
    let k = c.args.number in
    let place = place_for c.deref.result.now xs c.args.number c.in_default.field-0 c.deref.ensures.value c.self.invariant.0 c.in_default.ensures.position in
    let absent = is_absent xs c.in_default.field-0 c.args.number c.self.invariant.0 place in
    let low : ¬ ((n : ℕ) → In n xs → n < k) =
    λ all. let clash : true ≡ false = sym (c.is_above.ensures.1 (subst (λ l. (n : ℕ) → In n l → n < k) (sym c.as_slice.ensures.value) all)) ∙ c.if-is_above.false in cc in
    (c.self.invariant.0, passed_put xs c.self.inside.others.keys k c.self.invariant.1 absent c.put_other.new.others.keys low (λ n. (c.in_ok-new.ensures.keys n).0))

pub returns-clause-new : goal.returns-clause-new
returns-clause-new c e =
    let xs = c.self.inside.rising.items in
    let place = place_for c.deref.result.now xs c.args.number c.in_default.field-0 c.deref.ensures.value c.self.invariant.0 c.in_default.ensures.position in
    let absent = is_absent xs c.in_default.field-0 c.args.number c.self.invariant.0 place in
    let os = c.self.inside.others.keys in
    subst (λ l. ¬ In c.args.number l) c.self.view_is
    (new_behind xs os c.args.number c.self.invariant.1 absent c.put_other.new.others.keys (c.in_ok-new.ensures.new e))

pub returns-clause-numbers : goal.returns-clause-numbers
returns-clause-numbers c _ n =
    let xs = c.self.inside.rising.items in
    let os = c.self.inside.others.keys in
    let k = c.args.number in
    let place = place_for c.deref.result.now xs c.args.number c.in_default.field-0 c.deref.ensures.value c.self.invariant.0 c.in_default.ensures.position in
    let absent = is_absent xs c.in_default.field-0 c.args.number c.self.invariant.0 place in
    let new = c.put_other.new.others.keys in
    subst (λ l. In n (xs ++ new) ↔ (In n l ⊎ (n ≡ k))) c.self.view_is (in_behind xs os k c.self.invariant.1 absent new n (c.in_ok-new.ensures.keys n))
