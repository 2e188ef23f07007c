use Rattle.ghc_flat.proofs.Words.{cond, sym, ap, ◌∙◌, Some, bytes_eq, lookup}
use Rattle.ghc_flat.proofs.index.among.Goals as goal

pub returns-then-eq : goal.returns-then-eq
returns-then-eq c =
    let rest = lookup (bytes_eq c.args.name.now) c.next.new.self in
    sym (c.loop-other.invariant ∙ ap (lookup (bytes_eq c.args.name.now)) c.in-Some.ensures.steps ∙ ap (λ b. cond b (Some c.in-Some.arities.now) rest) (sym c.eq.ensures ∙ c.if-eq.true))

pub loop-other-preserved : goal.loop-other-preserved
loop-other-preserved c =
    let rest = lookup (bytes_eq c.args.name.now) c.next.new.self in
    c.loop-other.invariant ∙ ap (lookup (bytes_eq c.args.name.now)) c.in-Some.ensures.steps ∙ ap (λ b. cond b (Some c.in-Some.arities.now) rest) (sym c.eq.ensures ∙ c.if-eq.false)
