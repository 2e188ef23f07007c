use Rattle.ghc_reader.proofs.Words.{sym, ap, ◌∙◌, max, views, widest_of}
use Rattle.ghc_reader.proofs.Misplaced.{count_views}
use Rattle.ghc_reader.proofs.limits.arguments.widest_call.Goals as goal

pub returns : goal.returns
returns c =
    let arguments = c.args.call.now.arguments in
    c.max.ensures ∙ ap (λ n. max n c.widest_of.result) (c.len.ensures ∙ arguments.ok.0 ∙ sym (count_views arguments.items)) ∙ ap (max _) (c.widest_of.ensures ∙ ap (λ l. widest_of (views l)) c.deref.ensures.value)
