use Rattle.ghc_trace.proofs.Words.{◌≡◌, ◌+◌, ◌-◌, ◌<◌, ◌≤◌, ℕ, true, length, Some, refl, sym, ◌∙◌, subst, arith, nat_tests, slice_get}
use Rattle.std.proofs.lemmas.Option.{slice_get_read}
use Rattle.std.specs.Prelude.{IfSome}
use Rattle.ghc_trace.proofs.CallPlaces.{maker_before}
use Rattle.ghc_trace.proofs.CallTops.{AreHandedFrom, below_more, below_none, handed_all, handed_first, handed_more, handed_still, later_within, own_place, within_more}
use Rattle.ghc_trace.specs.Blaming.{IsTold}
use Rattle.ghc_trace.specs.declared.judgements.Judgement.TheVariants.{Right}
use Rattle.ghc_trace.specs.inner.BlameCode.{HasNothing}
use Rattle.ghc_trace.proofs.tops.last_below.Goals as goal

pub loop-place-init : goal.loop-place-init
loop-place-init c =
    let calls = c.args.calls.now.list.items in
    let last = c.in_ok-last.last in
    let n = c.len-place.result in
    let place : n ≡ length calls = c.len-place.ensures ∙ c.args.calls.now.list.ok.0 in
    let count : c.len.result ≡ length calls = c.len.ensures ∙ c.args.calls.now.list.ok.0 in
    let nothing = subst (λ k. HasNothing k last) count c.in_ok-last.ensures in (
      omega (arith, place),
      below_none (length calls) last nothing,
      λ P query rs t target replay are judged.
          subst (λ k. AreHandedFrom rs t target c.args.answers.now calls k last) (sym place) (handed_first P query rs t replay target calls are c.args.answers.now last nothing),
    )

-- The last of the places that are left.
last_place : (k n : ℕ) → 0 < k → k ≤ n → (k - 1 + 1 ≡ k) × (k - 1 < n)
last_place k n low high = (omega (arith, low), omega (arith, low, high))

pub loop-place-preserved-then-not-is_right : goal.loop-place-preserved-then-not-is_right
loop-place-preserved-then-not-is_right c =
    let calls = c.args.calls.now.list.items in
    let told = c.args.answers.now in
    let old = c.loop-place.last in
    let new = c.note.new.self in
    let wrong = c.in_ok-wrong.wrong.items in
    let k = c.loop-place.place in
    let j = k - 1 in
    let d = c.at-call.result.now in
    let before = maker_before calls c.args.calls.now.before j d c.at-call.ensures in
    let so_far = c.loop-place.invariant.1 in
    let place = last_place k (length calls) c.loop-place-test.true c.loop-place.invariant.0 in
    let low = place.1 in
    let below = c.index-below.result.now in
    let own = c.index.result.now in
    let long : length old.calls.items ≡ length calls = so_far.long in
    let many : length wrong ≡ length calls = c.in_ok-wrong.ensures.long in
    let noted : slice_get old.calls.items j ≡ Some below = slice_get_read old.calls.items (length old.calls.items) j below refl (omega (arith, low, long)) c.index-below.ensures in
    let there : slice_get wrong j ≡ Some own = slice_get_read wrong (length wrong) j own refl (omega (arith, low, many)) c.index.ensures in
    let mine = c.later.result in
    let within = later_within (length calls) j old below own mine low so_far noted (own_place wrong c.in_ok-wrong.ensures.places j own there) c.later.ensures in (
      omega (arith, low),
      below_more (length calls) j d.maker old new mine low so_far before within c.note.ensures,
      λ P query rs t target replay are judged.
          let handed = subst (λ n. AreHandedFrom rs t target told calls n old) (sym place.0) (c.loop-place.invariant.2 P query rs t target replay are judged) in
          let not : ¬ IsTold told d.name Right = λ right. (let yes = c.is_right.ensures.1 ((judged d.name Right).1 right) in absurd (grind (arith, nat_tests, yes, c.if-not-is_right.true))) in
          let is_own = c.in_ok-wrong.ensures.told rs t target are j d own c.at-call.ensures there in
          handed_more P query rs t replay target calls are told j d c.at-call.ensures old new below own mine (subst (λ n. IfSome d.maker (λ p. p < n)) (sym long) (within_more d.maker j (length calls) low before)) not handed noted is_own c.later.ensures
          c.note.ensures,
    )

pub loop-place-preserved : goal.loop-place-preserved
loop-place-preserved c =
    let calls = c.args.calls.now.list.items in
    let told = c.args.answers.now in
    let last = c.loop-place.last in
    let k = c.loop-place.place in
    let j = k - 1 in
    let d = c.at-call.result.now in
    let place = last_place k (length calls) c.loop-place-test.true c.loop-place.invariant.0 in
    let low = place.1 in (
      omega (arith, low),
      c.loop-place.invariant.1,
      λ P query rs t target replay are judged.
          let handed = subst (λ n. AreHandedFrom rs t target told calls n last) (sym place.0) (c.loop-place.invariant.2 P query rs t target replay are judged) in
          let yes : c.is_right.result ≡ true = grind (arith, nat_tests, c.if-not-is_right.false) in
          handed_still P query rs t replay target calls are told j d c.at-call.ensures last ((judged d.name Right).0 (c.is_right.ensures.0 yes)) handed,
    )

pub returns-clause-last : goal.returns-clause-last
returns-clause-last c P query rs t target replay are judged =
    let calls = c.args.calls.now.list.items in
    let told = c.args.answers.now in
    let zero : c.loop-place.place ≡ 0 = omega (arith, c.loop-place-test.false) in
    handed_all P query rs t replay target calls are told c.loop-place.last (subst (λ n. AreHandedFrom rs t target told calls n c.loop-place.last) zero (c.loop-place.invariant.2 P query rs t target replay are judged))
