use Rattle.ghc_trace.proofs.Words.{◌≡◌, ◌+◌, [], ◌∷◌, ◌++◌, List, get_or, take, true, false, sym, ◌∙◌, subst, arith, take_more, take_all, VarName, In, value_at}
use Rattle.ghc_trace.specs.inner.PartsCode.{IsGivenIn}
use Rattle.ghc_trace.proofs.PartFinding.{AreGiven, given_one, given_still}
use Rattle.ghc_trace.proofs.call_given.given_among.Goals.{then-is_given+in_ok-push, else-is_given}
use Rattle.ghc_trace.proofs.call_given.given_among.Goals as goal

pub loop-x-init : goal.loop-x-init
loop-x-init c x = (λ i. absurd (subst (In x) c.new-given.ensures.items i), λ q. absurd q.0)

pub loop-x-preserved : goal.loop-x-preserved
loop-x-preserved c =
    let Q = IsGivenIn c.args.records.now.held c.args.part.now.keys (value_at c.args.store.now.held) in
    let items = c.args.xs.now in
    let i = c.loop-x.x-index in
    let none : VarName = record { step = 0; place = 0 } in
    let y = get_or items i none in
    let given = c.loop-x.given.items in
    let more : take (i + 1) items ≡ take i items ++ y ∷ [] = take_more items i none c.loop-x-test.true in
    elim c.if-is_given.branch [
      | then-is_given+in_ok-push w ↦ rw w.given-is (subst (λ (l : List VarName). AreGiven Q l w.push.new.self.items) (sym more)
          (subst (λ l. AreGiven Q (take i items ++ y ∷ []) l) (sym w.in_ok-push.ensures.items)
          (given_one Q (take i items) given y c.loop-x.invariant (c.is_given.ensures.0 w.if-is_given.true))))
      | else-is_given w ↦ rw w.given-is (subst (λ (l : List VarName). AreGiven Q l given) (sym more)
          (given_still Q (take i items) given y c.loop-x.invariant (λ yes. let clash : false ≡ true = sym w.if-is_given.false ∙ c.is_given.ensures.1 yes in cc)))
    ]

pub returns : goal.returns
returns c =
    let items = c.args.xs.now in
    subst (λ (l : List VarName). AreGiven (IsGivenIn c.args.records.now.held c.args.part.now.keys (value_at c.args.store.now.held)) l c.loop-x.given.items) (take_all c.loop-x.x-index items (omega (arith, c.loop-x-test.false))) c.loop-x.invariant
