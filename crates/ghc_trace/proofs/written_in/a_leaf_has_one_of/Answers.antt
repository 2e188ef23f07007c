use Rattle.ghc_trace.proofs.Words.{Bor, Tree, ◌≡◌, ◌∙◌, ◌↔◌, ◌++◌, [], IsTrue, List, ap, map, sym, subst}
use Rattle.ghc_core.proofs.Redone.{if_ok}
use Rattle.ghc_hooks.specs.Reached.{leaves}
use Rattle.ghc_trace.specs.inner.WhyNotCode.{OneHasOneOf}
use Rattle.ghc_trace.proofs.written_in.a_leaf_has_one_of.Goals as goal

pub returns : goal.returns
returns c =
    let now : List (Bor Tree) → List Tree = λ ts. map (λ t. t.now) ts in
    let all : now c.as_slice.result.now ≡ leaves c.args.value.now =
    ap now c.as_slice.ensures.value ∙ c.in_ok-push_leaves.ensures ∙ ap (λ l. now l ++ leaves c.args.value.now) c.new-terms.ensures.items in
    if_ok c.one_lent_has_one_of.result c.one_lent_has_one_of.ensures (λ has is. subst (λ (l : List Tree). IsTrue has ↔ OneHasOneOf c.args.xs.now l) all is)
