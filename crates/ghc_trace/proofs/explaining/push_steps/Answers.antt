use Rattle.std.specs.Prelude.{IfSome}
use Rattle.ghc_trace.proofs.Words.{Bor, Option, ◌≡◌, ◌++◌, [], ℕ, List, Record, In, get_or, take, sym, subst, append-nil, take_more, string_bytes}
use Rattle.ghc_term.proofs.ListsLemmas.{in_get}
use Rattle.ghc_depend.specs.Depend.{IsKeptAs}
use Rattle.ghc_trace.specs.Explaining.{AreStepLines, no_step}
use Rattle.ghc_trace.proofs.Explained.{one_step, some_there}
use Rattle.ghc_trace.proofs.explaining.push_steps.Goals as goal

pub loop-number-init : goal.loop-number-init
loop-number-init c = ([], no_step, sym (append-nil (string_bytes c.args.out.now)))

pub unwrap-step-requires : goal.unwrap-step-requires
unwrap-step-requires c =
    let n = get_or c.args.numbers.now c.loop-number.number-index 0 in
    let kept = c.requires n (in_get c.args.numbers.now c.loop-number.number-index 0 c.loop-number-test.true) in
    some_there c.get.result _ c.get.ensures.none (λ none. none kept.0 (subst (λ rs. In kept.0 rs) (sym c.records-records.ensures) kept.1.0) kept.1.1)

pub loop-number-preserved : goal.loop-number-preserved
loop-number-preserved c =
    let w = c.args.core.now.world in
    let ns = c.args.numbers.now in
    let i = c.loop-number.number-index in
    let n = get_or ns i 0 in
    let step = c.unwrap-step.result in
    let found = subst (λ (o : Option (Bor Record)). IfSome o (λ r. In r.now c.records-records.result.now.held × (r.now.number ≡ n))) c.unwrap-step.ensures c.get.ensures.found in
    let kept : IsKeptAs w.kept n step.now = (subst (λ rs. In step.now rs) c.records-records.ensures found.0, found.1) in
    subst (λ l. (text : List ℕ) × AreStepLines w l text × (string_bytes c.write_step.new.out ≡ string_bytes c.args.out.now ++ text)) (sym (take_more ns i 0 c.loop-number-test.true))
    (one_step w (take i ns) n (string_bytes c.args.out.now) (string_bytes c.loop-number.out) (string_bytes c.write_step.new.out) step.now kept c.loop-number.invariant c.in_ok-write_step.ensures)
