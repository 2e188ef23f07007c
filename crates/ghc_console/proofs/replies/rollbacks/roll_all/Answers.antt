use Rattle.ghc_console.proofs.CitedWords.{rules, ◌≡◌, ◌+◌, [], ◌∷◌, ◌++◌, get_or, take, sym, subst, ◌∙◌, arith, string_bytes, World}
use Rattle.std.proofs.lemmas.List.{take_all, take_more}
use Rattle.ghc_console.specs.inner.KeepingCode.{AddsRollbacks}
use Rattle.ghc_console.proofs.Keeping.{always_err, rolls_none, rolls_next, rolls_some}
use Rattle.ghc_console.proofs.replies.rollbacks.roll_all.Goals as goal

pub loop-number-init : goal.loop-number-init
loop-number-init c = (rolls_none c.args.core.now.world (string_bytes c.args.reply.now), c.requires, search rules)

pub returns-in_err-roll_back-clause-some : goal.returns-in_err-roll_back-clause-some
returns-in_err-roll_back-clause-some c =
    let w = c.args.core.now.world in
    let ns = c.args.ns.now in
    let i = c.loop-number.number-index in
    let old = string_bytes c.args.reply.now in
    let v = c.roll_back.new.core.world in
    always_err c.from_residual.result
    (rolls_some w v ns i old (string_bytes c.roll_back.new.reply) (subst (λ t. AddsRollbacks w (take i ns) old t v) (sym c.in_err-roll_back.ensures.text)
    (subst (λ (u : World). AddsRollbacks w (take i ns) old (string_bytes c.loop-number.reply) u) (sym c.in_err-roll_back.ensures.err) c.loop-number.invariant.0)))

pub loop-number-preserved : goal.loop-number-preserved
loop-number-preserved c =
    let w = c.args.core.now.world in
    let ns = c.args.ns.now in
    let i = c.loop-number.number-index in
    let n = get_or ns i 0 in
    let old = string_bytes c.args.reply.now in
    let new = string_bytes c.roll_back.new.reply in
    let v = c.roll_back.new.core.world in
    let more : take (i + 1) ns ≡ take i ns ++ n ∷ [] = take_more ns i 0 c.loop-number-test.true in (
      subst (λ l. AddsRollbacks w l old new v) (sym more) (rolls_next w c.loop-number.core.world v (take i ns) n old (string_bytes c.loop-number.reply) new c.loop-number.invariant.0 c.in_ok-roll_back.ensures.told),
      c.in_ok-roll_back.ensures.room,
      c.in_ok-roll_back.ensures.firings ∙ c.loop-number.invariant.2,
    )

pub returns-clause-all : goal.returns-clause-all
returns-clause-all c =
    let ns = c.args.ns.now in
    subst (λ l. AddsRollbacks c.args.core.now.world l (string_bytes c.args.reply.now) (string_bytes c.loop-number.reply) c.loop-number.core.world) (take_all c.loop-number.number-index ns (omega (arith, c.loop-number-test.false)))
    c.loop-number.invariant.0
