use Rattle.ghc_pool.proofs.Words.{[], ◌∷◌, ◌++◌, length, reverse, refl, sym, ap, ◌∙◌, subst, inl, inr, arith, append_assoc, append-nil, length-append, length-reverse, not_both, IsInQuestion, AreThose}
use Rattle.ghc_pool.specs.inner.Survey.{at_end, passed}
use Rattle.ghc_pool.proofs.Listing.{listed_before}
use Rattle.ghc_pool.proofs.runs.survey.last_asked.Goals as goal

pub loop-names-init : goal.loop-names-init
loop-names-init c =
    let P = IsInQuestion c.args.root c.args.core.now.world.kept in
    record {
      seen = [];
      split = sym (append-nil c.iter-names.result ∙ c.iter-names.ensures.rest);
      those = subst (λ items. AreThose P [] (reverse items)) (sym c.new-listed.ensures.items) at_end;
      few = let none = ap length c.new-listed.ensures.items in omega (arith, none);
    }

pub loop-names-preserved : goal.loop-names-preserved
loop-names-preserved c =
    let goal = c.in-Some.goal.now in
    let before = c.loop-names.invariant in
    record {
      seen = goal ∷ before.seen;
      split = before.split ∙ ap (λ names. names ++ before.seen) c.in-Some.ensures.steps ∙ append_assoc c.next_back.new.self (goal ∷ []) before.seen;
      those = passed (λ q. not_both c.is_in_question.result c.if-is_in_question.false (c.is_in_question.ensures.1 q)) before.those;
      few = before.few;
    }

pub loop-names-preserved-in-Continue-1 : goal.loop-names-preserved-in-Continue-1
loop-names-preserved-in-Continue-1 c =
    let P = IsInQuestion c.args.root c.args.core.now.world.kept in
    let goal = c.in-Some.goal.now in
    let before = c.loop-names.invariant in
    let items = c.in_ok-push.ensures.items in
    record {
      seen = goal ∷ before.seen;
      split = before.split ∙ ap (λ names. names ++ before.seen) c.in-Some.ensures.steps ∙ append_assoc c.next_back.new.self (goal ∷ []) before.seen;
      those = subst (λ list. AreThose P (goal ∷ before.seen) (reverse list)) (sym items)
          (listed_before P goal before.seen c.loop-names.listed.items (c.is_in_question.ensures.0 c.if-is_in_question.true) before.those);
      few = let long = ap length items ∙ length-append c.loop-names.listed.items (goal ∷ []) in omega (arith, long, c.len.ensures, c.loop-names-test.true);
    }

pub loop-names-smaller : goal.loop-names-smaller
loop-names-smaller c =
    let longer = ap length c.in-Some.ensures.steps ∙ length-append c.next_back.new.self (c.in-Some.goal.now ∷ []) in
    omega (arith, longer)

pub returns-in_default : goal.returns-in_default
returns-in_default c =
    let before = c.loop-names.invariant in
    let same = length-reverse c.loop-names.listed.items in
    record {
      before = [];
      seen = before.seen;
      split = before.split ∙ ap (λ names. names ++ before.seen) c.in_default.ensures.steps.0;
      those = before.those;
      few = let few = before.few in omega (arith, few, same);
      enough = inl refl;
    }

pub returns : goal.returns
returns c =
    let before = c.loop-names.invariant in
    let same = length-reverse c.loop-names.listed.items in
    record {
      before = c.loop-names.names;
      seen = before.seen;
      split = before.split;
      those = before.those;
      few = let few = before.few in omega (arith, few, same);
      enough = inr (let few = before.few in omega (arith, few, same, c.len.ensures, c.loop-names-test.false));
    }
