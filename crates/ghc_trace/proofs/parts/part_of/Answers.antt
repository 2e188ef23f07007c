use Rattle.std.specs.Prelude.{IfSome}
use Rattle.ghc_trace.proofs.Words.{◌≡◌, [], ◌∷◌, ◌++◌, Bor, Option, get_or, take, true, false, sym, ap, ◌∙◌, subst, arith, In, in_get, Record, nat_cmp, insert_key}
use Rattle.ghc_trace.proofs.Explained.{some_there}
use Rattle.ghc_trace.proofs.PartSteps.{AreOfPart, all_taken, none_more, one_more, split_at}
use Rattle.ghc_trace.proofs.parts.part_of.Goals.{then-is_of_part+in-Ok, else-is_of_part}
use Rattle.ghc_trace.proofs.parts.part_of.Goals as goal

pub loop-number-init : goal.loop-number-init
loop-number-init c P query rs t are replay n = (λ i. absurd (subst (In n) c.new-part.ensures.empty i), λ q. absurd q.1.0)

pub unwrap-step-requires : goal.unwrap-step-requires
unwrap-step-requires c =
    let n = get_or c.args.steps.now c.loop-number.number-index 0 in
    let kept = c.requires n (in_get c.args.steps.now c.loop-number.number-index 0 c.loop-number-test.true) in
    some_there c.get.result _ c.get.ensures.none (λ none. none kept.0 kept.1.0 kept.1.1)

pub loop-number-preserved : goal.loop-number-preserved
loop-number-preserved c P query rs t are replay =
    let ns = c.args.steps.now in
    let i = c.loop-number.number-index in
    let n = get_or ns i 0 in
    let g = c.args.goal in
    let ks = c.loop-number.part.keys in
    let step = c.unwrap-step.result.now in
    let found = subst (λ (o : Option (Bor Record)). IfSome o (λ r. In r.now c.args.records.now.held × (r.now.number ≡ n))) c.unwrap-step.ensures c.get.ensures.found in
    let split = split_at c.args.records.now.held rs ns are c.len-count.ensures.distinct i c.loop-number-test.true step found.0 found.1 in
    let so_far = c.loop-number.invariant P query rs t are replay in
    elim c.if-is_of_part.branch [
      | then-is_of_part+in-Ok w ↦ rw w.part-is (subst (λ l. AreOfPart rs g l w.insert.new.self.keys) (sym split.1)
          (subst (λ l. AreOfPart rs g (take i rs ++ step ∷ []) l) (ap (λ k. insert_key nat_cmp ks k) found.1 ∙ sym w.in-Ok.ensures.keys)
          (one_more P query rs t replay g (take i rs) _ step split.0 ks so_far (c.is_of_part.ensures.0 w.if-is_of_part.true))))
      | else-is_of_part w ↦ rw w.part-is (subst (λ l. AreOfPart rs g l ks) (sym split.1)
          (none_more P query rs t replay g (take i rs) _ step split.0 ks so_far (λ up. let clash : false ≡ true = sym w.if-is_of_part.false ∙ c.is_of_part.ensures.1 up in cc)))
    ]

pub returns : goal.returns
returns c P query rs t are replay =
    subst (λ l. AreOfPart rs c.args.goal l c.loop-number.part.keys) (all_taken c.args.records.now.held rs c.args.steps.now are c.loop-number.number-index (omega (arith, c.loop-number-test.false)))
    (c.loop-number.invariant P query rs t are replay)
