use Rattle.ghc_term.proofs.Words.{◌≡◌, ◌<◌, ◌≤◌, rules, [], ◌∷◌, ◌++◌, sym, ap, ◌∙◌, arith, trees, height, height_of_all, items_of, tree_of, size-Term}
use denote.Param.Weighed.{most}
use Rattle.ghc_term.proofs.Drops.{front_size}
use Rattle.ghc_term.proofs.term.Term.+drop.Goals as goal

pub drop-list-requires-in-Others : goal.drop-list-requires-in-Others
drop-list-requires-in-Others t c =
    let items : c.in-Others.list.items ≡ c.pop.new.self.items ++ c.in-Some-pop.last ∷ [] = c.in-Some-pop.ensures.items in
    let inner : c.in-Others.list.items ≡ items_of c.in-Struct.structure.value.arguments = sym (ap items_of c.in-Others.is) ∙ ap (λ s. items_of s.arguments) c.in-Some.ensures in
    let whole : height (tree_of c.self.inside.shape) ≡ height_of_all (trees (items_of c.in-Struct.structure.value.arguments)) = ap (λ s. height (tree_of s)) c.in-Struct.is in
    let viewed : height (tree_of c.self.inside.shape) ≡ height c.loop-name.self = ap height c.self.view_is in
    let same : height_of_all (trees (items_of c.in-Struct.structure.value.arguments)) ≡ height_of_all (trees (c.pop.new.self.items ++ c.in-Some-pop.last ∷ [])) = ap (λ l. height_of_all (trees l)) (sym inner ∙ items) in
    let low : height_of_all (trees (c.pop.new.self.items ++ c.in-Some-pop.last ∷ [])) ≤ height c.args.self = omega (arith, c.loop-name.invariant) in
    let bound = front_size c.pop.new.self.items c.in-Some-pop.last (height c.args.self) low in
    let less : most size-Term c.pop.new.self.items < t = omega (arith, bound, c.decreases) in
    λ κs. (((less, tt), tt), (λ a m. Prim.search rules, λ a m. Prim.search rules))

pub drop-list-requires-in-Others-arguments : goal.drop-list-requires-in-Others-arguments
drop-list-requires-in-Others-arguments t c =
    let items : c.in-Others-arguments.list.items ≡ c.pop-in-Others-arguments.new.self.items ++ c.in-Some-pop-2.last ∷ [] = c.in-Some-pop-2.ensures.items in
    let inner : c.in-Others-arguments.list.items ≡ items_of c.in-Branch.branch.value.structure.arguments = sym (ap items_of c.in-Others-arguments.is) ∙ ap (λ b. items_of b.structure.arguments) c.in-Some-into_inner.ensures in
    let whole : height (tree_of c.self.inside.shape) ≡ height_of_all (trees (items_of c.in-Branch.branch.value.structure.arguments)) = ap (λ s. height (tree_of s)) c.in-Branch.is in
    let viewed : height (tree_of c.self.inside.shape) ≡ height c.loop-name.self = ap height c.self.view_is in
    let same : height_of_all (trees (items_of c.in-Branch.branch.value.structure.arguments)) ≡ height_of_all (trees (c.pop-in-Others-arguments.new.self.items ++ c.in-Some-pop-2.last ∷ [])) = ap (λ l. height_of_all (trees l)) (sym inner ∙ items) in
    let low : height_of_all (trees (c.pop-in-Others-arguments.new.self.items ++ c.in-Some-pop-2.last ∷ [])) ≤ height c.args.self = omega (arith, c.loop-name.invariant) in
    let bound = front_size c.pop-in-Others-arguments.new.self.items c.in-Some-pop-2.last (height c.args.self) low in
    let less : most size-Term c.pop-in-Others-arguments.new.self.items < t = omega (arith, bound, c.decreases) in
    λ κs. (((less, tt), tt), (λ a m. Prim.search rules, λ a m. Prim.search rules))
