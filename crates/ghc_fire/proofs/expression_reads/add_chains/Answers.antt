use Rattle.ghc_fire.proofs.Words.{◌≡◌, [], ◌∷◌, ◌++◌, append_assoc, sym, ap, ◌∙◌, reverse, reverse-append, value_at, leaf_variables, leaves, subst, Gains}
use Rattle.ghc_fire.proofs.Gathered.{OnChains, gathers_first}
use Rattle.ghc_fire.proofs.expression_reads.add_chains.Goals as goal

pub loop-part-preserved-in-Continue-branch-2 : goal.loop-part-preserved-in-Continue-branch-2
loop-part-preserved-in-Continue-branch-2 c x =
    let S = value_at c.args.store.now.held in
    let rest = leaves (reverse c.pop.new.self.items) in
    let part = c.in-Some.part in
    let opened : leaves (reverse c.loop-part.waiting.items) ≡ leaf_variables part.now ++ rest = ap (λ l. leaves (reverse l)) c.in-Some.ensures.items ∙ ap leaves (reverse-append c.pop.new.self.items (part ∷ [])) in
    let added = subst (λ a. Gains c.loop-part.reads c.add_chain.new.reads (OnChains S (leaf_variables a))) c.in-Leaf.ensures c.in_ok-add_chain-in-Leaf.ensures in
    let first = gathers_first (value_at c.args.store.now.held) c.loop-part.reads c.add_chain.new.reads (leaf_variables part.now) rest added x in
    let old = rw opened at (c.loop-part.invariant x) in
    (λ h. old.0 (first.0 h), λ h. first.1 (old.1 h))

pub loop-part-preserved : goal.loop-part-preserved
loop-part-preserved c x =
    let left = c.in-Operation.left in
    let right = c.in-Operation.right in
    let part = c.in-Some.part in
    let before = c.pop.new.self.items in
    let rest = leaves (reverse before) in
    let opened : leaves (reverse c.loop-part.waiting.items) ≡ leaf_variables part.now ++ rest = ap (λ l. leaves (reverse l)) c.in-Some.ensures.items ∙ ap leaves (reverse-append before (part ∷ [])) in
    let parted : leaf_variables part.now ≡ leaf_variables left.now ++ leaf_variables right.now = ap leaf_variables (sym c.in-Operation.ensures) in
    let pushed = c.in_ok-push-in-Operation-2.ensures.items ∙ ap (λ l. l ++ left ∷ []) c.in_ok-push-in-Operation.ensures.items in
    let turned = ap reverse pushed ∙ reverse-append (before ++ right ∷ []) (left ∷ []) ∙ ap (λ l. left ∷ l) (reverse-append before (right ∷ [])) in
    let same : leaves (reverse c.loop-part.waiting.items) ≡ leaves (reverse c.push-in-Operation-2.new.self.items) =
    opened ∙ ap (λ l. l ++ rest) parted ∙ append_assoc (leaf_variables left.now) (leaf_variables right.now) rest ∙ sym (ap leaves turned)
    in
    rw same at (c.loop-part.invariant x)
