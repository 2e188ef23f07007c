use Rattle.ghc_records.proofs.Words.{◌≢◌, ◌+◌, ◌≤◌, ℕ, List, take, sym, ap, ◌∙◌, subst, arith, ◌↔◌, take_all, In, Table, numbers_of}
use Rattle.ghc_records.proofs.NumberSets.{number_taken, next_is_put, next_is_left}
use Rattle.ghc_records.proofs.table.number_set.NumberSet.remove.Goals as goal
use Rattle.ghc_records.proofs.table.number_set.NumberSet.remove.Goals.{then-one-number, else-one-number}

-- what is left of the numbers in front of this place, and room for those from it on
abbrev IsLeft : List ℕ → ℕ → ℕ → Table (List ℕ) → Type 0
IsLeft xs i k left = ((n : ℕ) → In n left.held ↔ (In n (take i xs) × (n ≢ k))) × (3 ≤ left.room + i)

pub returns-in-Listed : goal.returns-in-Listed
returns-in-Listed c n =
    let here = ap (λ v. v.items) c.deref_mut.ensures.value ∙ ap numbers_of (sym c.in-Listed.is) ∙ ap (λ t. t.held) c.self.view_is in
    subst (λ l. In n c.take_rising.new.list.items ↔ (In n l × (n ≢ c.args.number))) here (c.take_rising.ensures.numbers n)

pub returns-in-Tabled : goal.returns-in-Tabled
returns-in-Tabled c n =
    let table = c.deref_mut-in-Tabled.result.now in
    let here = ap (λ t. t.keys) c.deref_mut-in-Tabled.ensures.value ∙ ap numbers_of (sym c.in-Tabled.is) ∙ ap (λ t. t.held) c.self.view_is in
    subst (λ l. In n c.swap_remove.new.self.keys ↔ (In n l × (n ≢ c.args.number))) here (number_taken table.keys c.swap_remove.new.self.keys c.args.number c.swap_remove.ensures.updates.0 n)

pub loop-one-preserved : goal.loop-one-preserved
loop-one-preserved c =
    let xs = c.as_slice-one-items.result.now in
    let i = c.loop-one.one-index in
    let held = c.loop-one.left.held in
    elim c.if-one-number.branch [
      | then-one-number w ↦
          subst (IsLeft xs (i + 1) c.args.number) (sym w.left-is)
          (next_is_put xs i c.args.number c.loop-one-test.true held c.loop-one.invariant.0 w.put.new.self.held w.if-one-number.true w.put.ensures.numbers, omega (arith, c.loop-one.invariant.1, w.put.ensures.room))
      | else-one-number w ↦
          subst (IsLeft xs (i + 1) c.args.number) (sym w.left-is)
          (next_is_left xs i c.args.number c.loop-one-test.true held c.loop-one.invariant.0 w.if-one-number.false, omega (arith, c.loop-one.invariant.1))
    ]

pub returns : goal.returns
returns c n =
    let xs = c.as_slice-one-items.result.now in
    let whole = take_all c.loop-one.one-index xs c.loop-one-test.false ∙ c.as_slice-one-items.ensures.numbers ∙ ap (λ t. t.held) c.self.view_is in
    subst (λ l. In n l ↔ (In n c.args.self.now.held × (n ≢ c.args.number))) (sym (ap (λ t. t.held) c.left.view_is))
    (subst (λ l. In n c.loop-one.left.held ↔ (In n l × (n ≢ c.args.number))) whole (c.loop-one.invariant.0 n))
