use Rattle.ghc_term.proofs.Words.{◌++◌, ◌∷◌, [], take, sym, ap, ◌∙◌, subst, keys_of, take_more, map-append, In}
use Rattle.std.proofs.lemmas.List.{take_all}
use Rattle.ghc_term.proofs.BindingLists.{not_before}
use Rattle.ghc_term.proofs.table.binding_table.names_of.Goals as goal

pub push-requires : goal.push-requires
push-requires c i = not_before c.args.entries.now c.loop-x.x-index c.loop-x-item.result c.requires c.loop-x-test.true c.loop-x-item.is (subst (In c.loop-x-item.result.0) c.loop-x.invariant i)

pub loop-x-preserved : goal.loop-x-preserved
loop-x-preserved c =
    let e = c.loop-x-item.result in
    c.in_ok-push.ensures.ok ∙ ap (λ l. l ++ e.0 ∷ []) c.loop-x.invariant
    ∙ sym (ap keys_of (take_more c.args.entries.now c.loop-x.x-index e c.loop-x-test.true ∙ ap (λ u. take c.loop-x.x-index c.args.entries.now ++ u ∷ []) (sym c.loop-x-item.is)) ∙ map-append (λ b. b.0) (take c.loop-x.x-index c.args.entries.now) (e ∷ []))

pub returns : goal.returns
returns c = c.loop-x.invariant ∙ ap keys_of (take_all c.loop-x.x-index c.args.entries.now c.loop-x-test.false)
