use Rattle.ghc_trace.proofs.Words.{◌≡◌, ◌++◌, List, IsTrue, ◌↔◌, codes, subst, ap, arith, common_steps, VarName, value_at, In, ◌∙◌}
use Rattle.ghc_trace.specs.PartLines.{asked_lines}
use Rattle.ghc_trace.specs.inner.PartsCode.{BindsAlone, OneFollows, turns_text}
use Rattle.ghc_trace.proofs.PartGiving.{known_here, told_given}
use Rattle.ghc_trace.proofs.part_lines.write_given_to.Goals as goal

pub follows_part-requires : goal.follows_part-requires
follows_part-requires c x n i s =
    let q = (c.in_ok-given.ensures x).0 (subst (λ (l : List VarName). In x l) c.as_slice-2.ensures.value i) in
    λ j. q.1.outside (subst (λ k. In k c.args.part.now.steps.keys) (q.1.alone n s) j)

pub returns-in-Err-clause-too_long : goal.returns-in-Err-clause-too_long
returns-in-Err-clause-too_long c e v ns g of part =
    let S = value_at c.args.store.now.held in
    let known = c.in_ok-known.known.held in
    let alone = subst (λ (l : List VarName). BindsAlone l S (value_at known)) c.as_slice.ensures.value c.in_ok-known.ensures in (
      known,
      known_here v c.args.records.now.held ns c.args.store.now.held of c.len-count.ensures.distinct g c.args.goal.now c.args.part.now.steps.keys c.in_ok-given.given.items part.numbered c.in_ok-given.ensures known alone,
      c.write_goal.ensures.too_long (c.in-Err.is ∙ e),
    )

pub returns-clause-text : goal.returns-clause-text
returns-clause-text c v ns g of part =
    let S = value_at c.args.store.now.held in
    let held = c.args.records.now.held in
    let steps = c.args.part.now.steps.keys in
    let xs = c.in_ok-given.given.items in
    let known = c.in_ok-known.known.held in
    let asks = c.args.part.now.asks.items in
    let went = c.in_ok-in_turns.in_turns in
    let line = c.in-Ok.ensures.text in
    let alone = subst (λ (l : List VarName). BindsAlone l S (value_at known)) c.as_slice.ensures.value c.in_ok-known.ensures in
    let follows = subst (λ (l : List VarName). IsTrue went ↔ OneFollows held steps l) c.as_slice-2.ensures.value c.in_ok-in_turns.ensures in
    let listed : asked_lines c.as_slice-3.result.now ≡ asked_lines asks = ap (λ l. asked_lines l) c.as_slice-3.ensures.value in (
      codes "given " ++ (line.0 ++ (codes "\n" ++ (asked_lines asks ++ turns_text went))),
      told_given v held ns c.args.store.now.held of c.len-count.ensures.distinct g c.args.goal.now steps xs part.numbered c.in_ok-given.ensures known alone line.0 asks went line.1 part.reaching follows,
      grind (arith, common_steps, listed),
    )
