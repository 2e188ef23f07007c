use Rattle.ghc_trace.proofs.Words.{◌≡◌, ◌+◌, ◌↔◌, Bool, IsTrue, List, Some, None, length, get_or, sym, ap, ◌∙◌, subst, arith, slice_get}
use Rattle.std.proofs.lemmas.List.{length_push}
use Rattle.std.proofs.lemmas.Option.{slice_get-get_or}
use Rattle.ghc_trace.proofs.CallsBelow.{AreSaidOf, said_more}
use Rattle.ghc_trace.specs.declared.slice_calls.Call.{Call}
use Rattle.ghc_trace.specs.inner.BlameCode.{IsOpenCall}
use Rattle.ghc_trace.proofs.questions.in_question.Goals as goal

pub loop-call-preserved : goal.loop-call-preserved
loop-call-preserved c = (
  ap (λ (l : List Bool). length l) c.in_ok-push.ensures.items ∙ length_push c.loop-call.doubts.items c.is_open-is_open.result ∙ ap (λ k. k + 1) c.loop-call.invariant.0,
  λ P query rs t target told name replay are judged named.
      let calls = c.args.calls.now.list.items in
      let i = c.loop-call.call-index in
      let none : Call = record { name = record { step = 0; place = 0 }; maker = None; taker = None } in
      let items = c.deref-call-items.result.now in
      let d = get_or items i none in
      let at : slice_get calls i ≡ Some d = subst (λ (l : List Call). slice_get l i ≡ Some d) c.deref-call-items.ensures.value (slice_get-get_or items i none c.loop-call-test.true) in
      let answer = subst (λ (l : List Bool). IsTrue c.is_open-is_open.result ↔ IsOpenCall d c.args.judged.now c.args.top l) c.as_slice.ensures.value c.is_open-is_open.ensures in
      let said = c.loop-call.invariant.1 P query rs t target told name replay are judged named in
      subst (AreSaidOf rs t target told name calls) (sym c.in_ok-push.ensures.items)
      (said_more P query rs t replay target calls are told c.args.top name named i d at c.args.judged.now judged c.loop-call.doubts.items said c.loop-call.invariant.0 c.is_open-is_open.result answer),
)

pub returns-clause-said : goal.returns-clause-said
returns-clause-said c P query rs t target told name replay are judged named = record {
  long = (let end = c.loop-call-test.false in let most = c.loop-call.auto.call-index-end in let far = c.loop-call.invariant.0 in let same = ap (λ (l : List Call). length l) c.deref-call-items.ensures.value in omega (arith, end, most, far, same));
  said = c.loop-call.invariant.1 P query rs t target told name replay are judged named;
}
