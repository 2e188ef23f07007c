use Rattle.ghc_reader.proofs.Words.{sym, ap, ◌∙◌, ◌&&◌, nat_eq, bytes_eq, count, views}
use Rattle.ghc_reader.proofs.Misplaced.{count_views}
use Rattle.ghc_reader.proofs.reserved.is_call.Goals as goal

pub returns-then-eq : goal.returns-then-eq
returns-then-eq c =
    let arguments = c.args.call.now.arguments.items in
    sym (ap (λ b. b && nat_eq (count (views arguments)) c.args.arity) (ap (λ n. bytes_eq n c.args.name.now) (sym c.as_str.ensures.bytes) ∙ sym c.eq.ensures ∙ c.if-eq.true) ∙ ap (λ k. nat_eq k c.args.arity) (count_views arguments ∙ sym (c.len.ensures ∙ c.args.call.now.arguments.ok.0)))
