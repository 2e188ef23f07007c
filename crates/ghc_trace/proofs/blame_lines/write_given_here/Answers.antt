use Rattle.ghc_trace.proofs.Words.{List, Record, In, sym, subst, inl}
use Rattle.ghc_trace.specs.BlameLines.{only}
use Rattle.ghc_trace.specs.inner.PartsCode.{IsWorldOf}
use Rattle.ghc_trace.proofs.BlameTold.{kept_number}
use Rattle.ghc_trace.proofs.CausePlaces.{on_ok}
use Rattle.ghc_trace.proofs.blame_lines.write_given_here.Goals as goal

pub write_given-requires : goal.write_given-requires
write_given-requires c n i =
    let told = c.requires in
    let q = kept_number c.args.told.now.core.now.world.kept told.0 c.args.told.now.steps.now told.2.world.steps n i in
    (q.0, (subst (λ (l : List Record). In q.0 l) (sym c.records.ensures) q.1.0, q.1.1))

pub returns-clause-text : goal.returns-clause-text
returns-clause-text c = on_ok c.write_given.result c.write_given.ensures.text (λ tells rs t about.
    let d = c.args.told.now in
    tells (only d.core.now.world rs t) (subst (λ (l : List Record). IsWorldOf l d.steps.now d.store.now.held (only d.core.now.world rs t)) (sym c.records.ensures) about.world))

pub returns-clause-too_long : goal.returns-clause-too_long
returns-clause-too_long c e rs t about =
    let d = c.args.told.now in
    inl (c.write_given.ensures.too_long e (only d.core.now.world rs t) (subst (λ (l : List Record). IsWorldOf l d.steps.now d.store.now.held (only d.core.now.world rs t)) (sym c.records.ensures) about.world))
