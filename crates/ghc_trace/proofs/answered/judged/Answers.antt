use Rattle.ghc_trace.proofs.Words.{◌≡◌, ◌+◌, [], ◌∷◌, ◌++◌, List, get_or, take, sym, subst, arith, take_more, take_all}
use Rattle.ghc_trace.proofs.CallAnswers.{judged_more, judged_none}
use Rattle.ghc_trace.specs.declared.judgements.Answer.{Answer}
use Rattle.ghc_trace.specs.declared.judgements.Judgement.TheVariants.{Right}
use Rattle.ghc_trace.specs.inner.BlameCode.{AreJudged}
use Rattle.ghc_trace.proofs.answered.judged.Goals as goal

pub loop-answer-init : goal.loop-answer-init
loop-answer-init c = judged_none c.new-judged.result c.new-judged.ensures.empty

pub loop-answer-preserved : goal.loop-answer-preserved
loop-answer-preserved c =
    let items = c.args.answers.now in
    let i = c.loop-answer.answer-index in
    let none : Answer = record { goal = record { step = 0; place = 0 }; judgement = Right } in
    let a = get_or items i none in
    let more : take (i + 1) items ≡ take i items ++ a ∷ [] = take_more items i none c.loop-answer-test.true in
    subst (λ (l : List Answer). AreJudged l c.insert.new.self) (sym more) (judged_more (take i items) a c.loop-answer.judged c.insert.new.self c.loop-answer.invariant c.in-Ok.ensures.updates)

pub returns : goal.returns
returns c =
    let items = c.args.answers.now in
    subst (λ (l : List Answer). AreJudged l c.loop-answer.judged) (take_all c.loop-answer.answer-index items (omega (arith, c.loop-answer-test.false))) c.loop-answer.invariant
