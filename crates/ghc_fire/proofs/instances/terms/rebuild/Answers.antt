use Rattle.ghc_fire.proofs.Words.{sym, ap, ◌∙◌, node, trees, plugged}
use Rattle.ghc_fire.proofs.Rebuilding.{plugged_push}
use Rattle.ghc_fire.proofs.instances.terms.rebuild.Goals as goal

pub loop-front-preserved : goal.loop-front-preserved
loop-front-preserved c =
    let f = c.in-Some.front in
    let rest = c.pop.new.self.items in
    ap (plugged rest) (c.in_ok-term.ensures ∙ ap (λ l. node f.name (trees l)) c.in_ok-push.ensures.items) ∙ sym (plugged_push rest f c.loop-front.term)
    ∙ ap (λ fs. plugged fs c.loop-front.term) (sym c.in-Some.ensures.items) ∙ c.loop-front.invariant
