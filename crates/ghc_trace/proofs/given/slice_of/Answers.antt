use Rattle.ghc_trace.proofs.Words.{subst, value_at}
use Rattle.ghc_depend.specs.Slices.{Gave}
use Rattle.ghc_trace.specs.Causes.{IsSliceTold}
use Rattle.ghc_trace.proofs.Giving.{told_slice}
use Rattle.ghc_core.proofs.Redone.{if_ok}
use Rattle.ghc_trace.proofs.given.slice_of.Goals as goal

pub returns : goal.returns
returns c = if_ok c.slice.result c.slice.ensures (λ told h.
    let w = c.args.core.now.world in
    told_slice w.kept (Gave (value_at w.state.store) c.args.x) c.in_ok-givers.givers.items told.items c.in_ok-givers.ensures
    (subst (λ kept. IsSliceTold kept c.in_ok-givers.givers.items told.items) c.records.ensures (subst (λ ns. IsSliceTold c.records.result.now.held ns told.items) c.as_slice.ensures.value h)))
