use Rattle.ghc_trace.proofs.Words.{◌≡◌, [], ◌∷◌, ◌++◌, ℕ, List, refl, sym, ap, ◌∙◌, subst, append_assoc, append-nil, VarName, StoreValue, value_at, string_bytes}
use Rattle.ghc_trace.specs.WhyNot.{AreLostLines, no_variable}
use Rattle.ghc_trace.specs.inner.WhyNotCode.{AreByName}
use Rattle.ghc_trace.proofs.LostSteps.{one_lost}
use Rattle.ghc_trace.proofs.lost.write_all_lost.Goals as goal

pub loop-name-init : goal.loop-name-init
loop-name-init c = ([], refl, ([], no_variable, sym (append-nil (string_bytes c.args.out.now))))

pub loop-name-preserved : goal.loop-name-preserved
loop-name-preserved c =
    let w = c.args.core.now.world in
    let y = c.in-Some.name.now in
    let done = c.loop-name.invariant.0 in (
      done ++ y ∷ [],
      append_assoc done (y ∷ []) c.next.new.self ∙ ap (λ l. done ++ l) (sym c.in-Some.ensures.steps) ∙ c.loop-name.invariant.1,
      one_lost w done y (string_bytes c.args.out.now) (string_bytes c.loop-name.out) (string_bytes c.write_lost_of.new.out) c.loop-name.invariant.2 c.in_ok-write_lost_of.ensures,
    )

pub returns : goal.returns
returns c =
    let ys = c.in_ok-names.names.keys in
    let done = c.loop-name.invariant.0 in
    let text = c.loop-name.invariant.2 in
    let all : done ≡ ys = sym (append-nil done) ∙ ap (λ l. done ++ l) (sym c.in-None.ensures.steps.0) ∙ c.loop-name.invariant.1 ∙ c.into_iter-name-iterator.ensures.into_iter_gives.0 in
    (ys, text.0, c.in_ok-names.ensures, subst (λ (l : List VarName). AreLostLines c.args.core.now.world l text.0) all text.1, text.2)
