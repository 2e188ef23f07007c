use Rattle.ghc_reader.proofs.Words.{◌≡◌, ap, sym, ◌∙◌, List, [], ◌∷◌, ◌++◌, refl, cons, conses}
use Rattle.ghc_term.specs.Tree.{Tree}
use Rattle.ghc_reader.proofs.lowering.lists.Lists.cells.Goals as goal

conses_push : (ts : List Tree) (t end : Tree) → conses (ts ++ t ∷ []) end ≡ conses ts (cons t end)
conses_push [] t end = refl
conses_push (u ∷ ts) t end = ap (cons u) (conses_push ts t end)

pub loop-element-preserved : goal.loop-element-preserved
loop-element-preserved c =
    let rest = c.pop.new.self.items in
    let all : c.loop-element.elements.items ≡ rest ++ c.in-Some.element ∷ [] = c.in-Some.ensures.items in
    ap (conses rest) c.in_ok-list.ensures ∙ sym (conses_push rest c.in-Some.element c.loop-element.list) ∙ ap (λ ts. conses ts c.loop-element.list) (sym all) ∙ c.loop-element.invariant
