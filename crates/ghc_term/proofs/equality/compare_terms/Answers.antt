use Rattle.ghc_term.proofs.Words.{sym, ap, ◌∙◌, arith, IfOk-weaker, nodes}
use Rattle.ghc_term.proofs.Alike.{compared_as, refuted, lent_structure, same_structure, same_parts}
use Rattle.ghc_term.proofs.equality.compare_terms.Goals as goal

pub returns-in-Struct-view : goal.returns-in-Struct-view
returns-in-Struct-view c =
    let l = c.in-Struct.ensures.shown in
    let r = c.in-Struct-view.ensures.shown in
    IfOk-weaker c.compare_calls.result _ _ (λ b k.
    compared_as _ _ _ _ _ _ b (same_structure _ _ _ _ _ _ l r) (same_parts _ _ _ _ _ _ l r) (omega (arith, ap nodes l)) k) c.compare_calls.ensures

pub returns-in_default : goal.returns-in_default
returns-in_default c =
    refuted _ _ _ _ (λ e. lent_structure c.in-Struct.name.now c.in-Struct.lefts.now c.view-in-Struct.result c.in-Struct.ensures.arguments c.in_default.not-Struct
    (c.view-in-Struct.ensures.shown ∙ sym e ∙ sym c.in-Struct.ensures.shown))
