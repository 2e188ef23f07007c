use Rattle.ghc_records.proofs.Words.{◌+◌, drop, ap, ◌∙◌, sym, drop_all, drop_more}
use Rattle.std.specs.FinMap as finite
use Rattle.ghc_records.proofs.BindingOrder.{poured, poured_all, poured_more, poured_end, shown}
use Rattle.ghc_records.proofs.text.step_text.by_variable.Goals as goal

pub loop-x-init : goal.loop-x-init
loop-x-init c =
    ap (λ es. poured (finite.from_entries (shown (λ t. t.now) es)) c.entries-x-items.result.now) c.new-ordered.ensures.empty
    ∙ poured_all c.args.binds.now c.entries-x-items.result.now c.entries-x-items.ensures.all c.entries-x-items.ensures.once

pub loop-x-preserved : goal.loop-x-preserved
loop-x-preserved c =
    let es = c.entries-x-items.result.now in
    let b = c.loop-x-item.result in
    let i = c.loop-x.x-index in
    let before = finite.from_entries (shown (λ t. t.now) c.loop-x.ordered.entries) in
    ap (λ m. poured m (drop (i + 1) es))
    (poured_more (λ t. t.now) c.loop-x.ordered.entries c.insert.new.self.entries b.0 _ c.in_ok-insert.ensures.updates.0 ∙ ap (λ a. finite.insert before a.0 a.1) c.loop-x-item.is)
    ∙ ap (poured before) (sym (drop_more es i b c.loop-x-test.true)) ∙ c.loop-x.invariant

pub returns : goal.returns
returns c =
    poured_end (λ t. t.now) c.args.binds.now c.loop-x.ordered.entries (drop c.loop-x.x-index c.entries-x-items.result.now) c.loop-x.invariant (drop_all c.loop-x.x-index c.entries-x-items.result.now c.loop-x-test.false)
    c.len-count.ensures.ordered
