use Rattle.ghc_unify.proofs.Words.{ap, inl, inr, Err, value_at, Unifies, Clashes, Cycles}
use Rattle.ghc_unify.proofs.Refusals.{HandedOn, handed_on, no_answer}
use Rattle.ghc_unify.proofs.Runs.{answered}
use Rattle.ghc_unify.proofs.SolutionLemmas.{solutions}
use Rattle.ghc_unify.proofs.solve.unify.Goals as goal

pub returns-in_err-solve : goal.returns-in_err-solve
returns-in_err-solve c =
    let S = value_at c.args.store.now.held in
    let l = c.args.left.now in
    let r = c.args.right.now in
    let out = c.from_residual in
    let was = c.in_err-solve.ensures in
    let h : HandedOn (λ s. Unifies S l r s.binds s.reads) (Clashes S l r) (Cycles S l r) out.result =
    handed_on out.result out.ensures.1 (λ is. was.clash (ap Err is)) (λ is. was.cycle (ap Err is)) was.only in
    let all = solutions S l r in
    record {
      answer = answered S l r out.result h;
      kept = no_answer _ _ out.result out.ensures.1;
      none = λ e. elim e [ inl q ↦ all.clash (h.clash q) | inr q ↦ all.cycle (h.cycle q) ];
    }

pub returns-clause-kept : goal.returns-clause-kept
returns-clause-kept c =
    let s = c.solve.new.solved in
    (solutions (value_at c.args.store.now.held) c.args.left.now c.args.right.now).solved s.binds s.reads c.in_ok-solve.ensures.solved
