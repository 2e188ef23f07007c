use Rattle.ghc_trace.proofs.Words.{◌≡◌, ◌++◌, [], List, ℕ, get_or, take, sym, subst, ◌∙◌, append-nil, in_get, arith, common_steps, string_bytes, Record, In}
use Rattle.ghc_records.proofs.OrderLemmas.{number_of}
use Rattle.ghc_trace.specs.BlameLines.{AreAskedGoals, no_step, only}
use Rattle.ghc_trace.proofs.BlameTold.{kept_number, one_asked}
use Rattle.ghc_trace.proofs.PartSteps.{all_taken, split_at}
use Rattle.ghc_trace.proofs.verdict_lines.write_all_asked.Goals as goal

pub loop-number-init : goal.loop-number-init
loop-number-init c = record { lines = λ rs t about. ([], no_step, sym (append-nil (string_bytes c.args.out.now))); begun = grind (arith, common_steps) }

pub write_asked-requires : goal.write_asked-requires
write_asked-requires c =
    let d = c.args.told.now in
    let told = c.requires in
    kept_number d.core.now.world.kept told.0 d.steps.now told.2.world.steps (get_or d.steps.now c.loop-number.number-index 0) (in_get d.steps.now c.loop-number.number-index 0 c.loop-number-test.true)

pub loop-number-preserved : goal.loop-number-preserved
loop-number-preserved c = record {
  lines = λ rs t about.
      let d = c.args.told.now in
      let w = only d.core.now.world rs t in
      let ns = d.steps.now in
      let i = c.loop-number.number-index in
      let n = get_or ns i 0 in
      let old = string_bytes c.args.out.now in
      let are = about.world.steps in
      let r = number_of rs n (subst (In n) (sym are.numbered) (in_get ns i 0 c.loop-number-test.true)) in
      let split = split_at d.core.now.world.kept rs ns are c.stands.ensures.orderly.kept_once i c.loop-number-test.true r.0 (are.within r.0 r.1) r.2 in
      let before = c.loop-number.invariant.lines rs t about in
      let q = c.in-Ok.ensures.text rs t r.0 about (r.1, r.2) in
      subst (λ (l : List Record). (text : List ℕ) × AreAskedGoals w d.target l text × (string_bytes c.write_asked.new.out ≡ old ++ text)) (sym split.1)
      (one_asked w d.target (take i rs) r.0 old before.0 (string_bytes c.loop-number.out) q.0 (string_bytes c.write_asked.new.out) before.1 q.1 before.2 q.2);
  begun = grind (arith, common_steps);
}

pub returns-in-Err-clause-too_long : goal.returns-in-Err-clause-too_long
returns-in-Err-clause-too_long c e =
    let ns = c.args.told.now.steps.now in
    let i = c.loop-number.number-index in
    (get_or ns i 0, in_get ns i 0 c.loop-number-test.true, c.write_asked.ensures.too_long (c.in-Err.is ∙ e))

pub returns-clause-text : goal.returns-clause-text
returns-clause-text c rs t about =
    let d = c.args.told.now in
    subst (λ (l : List Record). (text : List ℕ) × AreAskedGoals (only d.core.now.world rs t) d.target l text × (string_bytes c.loop-number.out ≡ string_bytes c.args.out.now ++ text))
    (all_taken d.core.now.world.kept rs d.steps.now about.world.steps c.loop-number.number-index (omega (arith, c.loop-number-test.false))) (c.loop-number.invariant.lines rs t about)
