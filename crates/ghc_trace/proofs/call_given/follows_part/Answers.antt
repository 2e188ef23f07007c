use Rattle.ghc_trace.proofs.Words.{sym, subst, List, ℕ, In}
use Rattle.ghc_trace.specs.Causes.{IsSliceTold}
use Rattle.ghc_trace.proofs.PartFollowing.{follows, in_slice}
use Rattle.ghc_trace.proofs.call_given.follows_part.Goals as goal

pub returns : goal.returns
returns c =
    let kept = c.args.records.now.held in
    let ns = c.args.part.now.keys in
    let xs = c.args.xs.now in
    let told = c.in_ok-behind.behind.items in
    let binders = c.in_ok-binders.binders.items in
    let slice = subst (λ (l : List ℕ). IsSliceTold kept l told) c.as_slice.ensures.value c.in_ok-behind.ensures in
    let has = c.has_one_of.ensures in
    let listed = c.as_slice-2.ensures.value in (
      λ h. let q = has.0 h in follows kept c.len-count.ensures.distinct ns xs c.requires binders told c.in_ok-binders.ensures slice q.0 (subst (In q.0) listed q.1) q.2,
      λ o. let q = in_slice kept c.len-count.ensures.distinct ns xs c.requires binders told c.in_ok-binders.ensures slice o in has.1 (q.0, subst (In q.0) (sym listed) q.1, q.2),
    )
