use Rattle.ghc_trace.proofs.Words.{◌≡◌, ◌+◌, ℕ, [], ◌∷◌, ◌++◌, true, false, not, List, get_or, take, refl, sym, ap, ◌∙◌, subst, inl, inr, arith, take_more, take_all, In, in_get, in_more}
use Rattle.ghc_trace.proofs.CallPlaces.{found_there, nowhere_there}
use Rattle.ghc_trace.specs.declared.judgements.Answer.{Answer}
use Rattle.ghc_trace.specs.declared.judgements.Judgement.TheVariants.{Right}
use Rattle.ghc_trace.specs.declared.slice_calls.Call.{Call}
use Rattle.ghc_trace.specs.inner.BlameCode.{StandsAtPlace}
use Rattle.ghc_trace.proofs.answered.are_about_calls.Goals as goal

pub loop-answer-init : goal.loop-answer-init
loop-answer-init c a i = absurd i

pub loop-answer-preserved : goal.loop-answer-preserved
loop-answer-preserved c a i =
    let items = c.args.answers.now in
    let at = c.loop-answer.answer-index in
    let calls = c.args.calls.now.list.items in
    let none : Answer = record { goal = record { step = 0; place = 0 }; judgement = Right } in
    let b = get_or items at none in
    let more : take (at + 1) items ≡ take at items ++ b ∷ [] = take_more items at none c.loop-answer-test.true in
    elim (in_more (take at items) b a (subst (λ (l : List Answer). In a l) more i)) [
      | inl j ↦ c.loop-answer.invariant a j
      | inr same ↦ subst (λ (z : Answer). (i : ℕ) × (c : Call) × StandsAtPlace calls i c × (c.name ≡ z.goal)) (sym same) (found_there calls b.goal c.place_of.result c.place_of.ensures.found (c.is_none.ensures ∙ ap not c.if-is_none.false))
    ]

pub returns-then-is_none : goal.returns-then-is_none
returns-then-is_none c rs t target are =
    let items = c.args.answers.now in
    let at = c.loop-answer.answer-index in
    let none : Answer = record { goal = record { step = 0; place = 0 }; judgement = Right } in
    let b = get_or items at none in (
      (λ h. let clash : false ≡ true = h in cc),
      (λ all.
          let w = (are.all b.goal).0 (all b (in_get items at none c.loop-answer-test.true)) in
          absurd (nowhere_there c.args.calls.now.list.items b.goal c.place_of.result c.place_of.ensures.none (c.is_none.ensures ∙ ap not c.if-is_none.true) w.0 w.1 w.2 w.3)),
    )

pub returns : goal.returns
returns c rs t target are =
    let items = c.args.answers.now in
    let all : take c.loop-answer.answer-index items ≡ items = take_all c.loop-answer.answer-index items (omega (arith, c.loop-answer-test.false)) in (
      (λ _ a i. (are.all a.goal).1 (c.loop-answer.invariant a (subst (λ (l : List Answer). In a l) (sym all) i))),
      (λ _. refl),
    )
