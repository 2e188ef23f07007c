use Rattle.ghc_trace.proofs.Words.{◌≡◌, ◌∙◌, ◌↔◌, ℕ, true, false, sym, ap, inl, inr, refl, subst, In, held_in, insert_key, nat_cmp}
use Rattle.ghc_records.specs.UseIndex.{StepDependsOn}
use Rattle.ghc_depend.proofs.Ahead.{places_all}
use Rattle.ghc_trace.proofs.goal_parts.take_in.Goals as goal

pub returns-then-not-is_of_part-clause-told : goal.returns-then-not-is_of_part-clause-told
returns-then-not-is_of_part-clause-told c _ = inr ((λ up. let clash : false ≡ true = sym c.if-not-is_of_part.true ∙ c.is_of_part.ensures.1 up in cc), refl, refl)

pub returns-clause-told : goal.returns-clause-told
returns-clause-told c _ =
    let ss = c.args.records.now.slots in
    let n = c.args.step.now.number in
    let users = subst (λ k. (m : ℕ) → In m c.in-Some.users.now ↔ StepDependsOn (held_in ss) m k) c.number.ensures
    (subst (λ l. (m : ℕ) → In m c.in-Some.users.now ↔ StepDependsOn l m c.number.result) c.len-count.ensures.slots c.in-Some.ensures.users) in
    inl (
      c.is_of_part.ensures.0 c.if-not-is_of_part.false,
      c.in-Ok.ensures.keys ∙ ap (λ k. insert_key nat_cmp c.args.part.now.keys k) c.number-2.ensures,
      places_all ss c.in-Some.users.now n c.args.ahead.now.keys c.add_numbered.new.places.keys users c.in_ok-add_numbered.ensures,
    )
