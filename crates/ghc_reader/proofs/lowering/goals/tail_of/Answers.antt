use Rattle.ghc_reader.proofs.Words.{sym, ap, ◌∙◌, inl, inr, bytes_eq, codes, arith, nat_tests}
use Rattle.ghc_reader.proofs.GoalsLowered.{another_has_no_tail}
use Rattle.ghc_reader.proofs.lowering.goals.tail_of.Goals as goal
use Rattle.ghc_reader.proofs.lowering.goals.tail_of.Goals.{then-ne-via-then-ne, then-ne-via-else-ne+then-len-ne1}

pub returns-then-ne : goal.returns-then-ne
returns-then-ne c =
    sym
    (another_has_no_tail c.args.goal.now c.in-Call.call c.in-Call.is
    (elim c.then-ne.branch [
      | then-ne-via-then-ne w ↦ inl (ap (λ n. bytes_eq n (codes "instream")) (sym c.as_str.ensures.bytes) ∙ grind (arith, w.if-ne.ensures))
      | then-ne-via-else-ne+then-len-ne1 w ↦ inr (grind (arith, nat_tests, c.in-Call.call.arguments.ok.0, w.len.ensures, w.if-len-ne1.true))
    ]))
