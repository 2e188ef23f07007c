use Rattle.ghc_records.proofs.Words.{◌++◌, ap, ◌∙◌, nat_cmp-IsAntisymmetric, nat_cmp, shown_by}
use Rattle.std.proofs.Common.{append-nil}
use Rattle.std.proofs.lemmas.Cmp.{nat_cmp_total}
use Rattle.std.specs.FinMap as finite
use Rattle.ghc_records.proofs.InTurn.{one_more, gathered}
use Rattle.ghc_records.proofs.shelf.Shelf.by_number.Goals as goal

pub loop-number-init : goal.loop-number-init
loop-number-init c =
    let left = c.into_iter-number-iterator.result.iter in
    ap (λ es. finite.from_entries {R = nat_cmp} (left ++ shown_by (λ t. t.now) es)) c.new-ordered.ensures.empty
    ∙ ap (λ es. finite.from_entries {R = nat_cmp} es) (append-nil left ∙ ap (λ r. r.iter) c.into_iter-number-iterator.ensures.into_iter_gives ∙ c.rev-number-items.ensures.source ∙ c.iter.ensures.rest)
    ∙ ap (λ t. t.held) c.self.view_is

pub loop-number-preserved : goal.loop-number-preserved
loop-number-preserved c =
    one_more nat_cmp_total nat_cmp-IsAntisymmetric (λ t. t.now) c.args.self.now.held c.loop-number.number-iterator.iter c.next.new.self.iter c.loop-number.ordered.entries c.insert.new.self.entries c.in-Some.number.now
    c.in-Some.taken c.loop-number.invariant c.in-Some.ensures.steps c.in_ok-insert.ensures.updates.0

pub returns : goal.returns
returns c = gathered nat_cmp_total nat_cmp-IsAntisymmetric (λ t. t.now) c.args.self.now.held c.loop-number.number-iterator.iter c.loop-number.ordered.entries c.loop-number.invariant c.in-None.ensures.steps.0 c.len-count.ensures.ordered
