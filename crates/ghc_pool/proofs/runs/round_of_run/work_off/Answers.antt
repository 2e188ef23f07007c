use Rattle.ghc_pool.proofs.Words.{[], length, sym, subst, ap, ◌∙◌, arith, true, history, World, Core, code_of, AreEachOnce, places_since, Takes, at_start, and_tries, AreTold, IsPassAfter, TakesAtMost}
use base.Stored.{Gv}
use Rattle.ghc_pool.proofs.Telling.{told_all}
use Rattle.ghc_pool.proofs.RoundPlaces.{newcomers_length}
use Rattle.ghc_pool.proofs.RoundTakes.{round_takes}
use Rattle.ghc_pool.proofs.Unworked.{unworked}
use Rattle.ghc_pool.proofs.runs.round_of_run.work_off.Goals as goal

pub round-worked-requires-clause-count : goal.round-worked-requires-clause-count
round-worked-requires-clause-count g c κs within =
    let passes = c.in-Ok.passes in
    let w = c.args.opening.value.world in
    let n = g.N.Naming.passes in
    let long = newcomers_length (history w.opening w.journal) n in
    let same = ap (λ l. length l) c.in-Ok.ensures.passes in
    let is = c.requires.passes in
    (omega (arith, passes.ok.0, same, long, is, c.requires.count.1), omega (arith, passes.ok.0, same, long, is, c.requires.count.2))

pub close-core-requires-clause-all : goal.close-core-requires-clause-all
close-core-requires-clause-all g c =
    told_all g.N.Naming.opened c.args.scope.now c.args.team.now.spies.now _ g.N.Naming.passes 0 c.in-Ok.passes.items c.in-Ok-worked._report.workers.items c.in-Ok-worked.passes.items c.in-Ok-worked.ensures.told c.in-Ok.ensures.all

pub returns-in-Ok-worked : goal.returns-in-Ok-worked
returns-in-Ok-worked g c =
    let team = c.args.team.now in
    let w = c.args.opening.value.world in
    let v = c.close-core.result.world in
    let closed = c.close-core.ensures in
    let n = g.N.Naming.passes in
    let ks = c.in-Ok-worked._report.workers.items in
    let nows = c.in-Ok-worked.passes.items in
    let told = subst (λ (o : Gv). AreTold (IsPassAfter o c.args.scope.now team.spies.now true) c.in-Ok.passes.items ks nows) (sym c.requires.opened) c.in-Ok-worked.ensures.told in
    let from = subst (λ l. AreTold (IsPassAfter (code_of w.opening) c.args.scope.now team.spies.now true) l ks nows) c.in-Ok.ensures.passes told in
    let once = subst (λ base. AreEachOnce nows (places_since base (history v.opening v.journal))) (sym c.requires.base) closed.once in
    let t = round_takes team.workers c.args.scope.now team.spies.now c.args.root w v c.args.opening.value.notes c.close-core.result.notes n ks nows c.requires.several c.requires.standing c.stands.ensures.standing (omega (arith, c.requires.passes, c.requires.count.1)) c.requires.covers from closed.begins once in
    (t.0, t.1, omega (arith, t.2, c.in-Ok-worked.ensures.few))

pub returns-in-Err-worked : goal.returns-in-Err-worked
returns-in-Err-worked g c =
    let team = c.args.team.now in
    let w = c.args.opening.value.world in
    let v = c.close-core-in-Err-worked.result.world in
    let closed = c.close-core-in-Err-worked.ensures in
    let once = subst (λ base. AreEachOnce c.in-Err-worked.passes.items (places_since base (history v.opening v.journal))) (sym c.requires.base) closed.once in
    let same = unworked w v g.N.Naming.passes c.in-Err-worked.passes.items c.requires.standing c.stands-in-Err-worked.ensures.standing (omega (arith, c.requires.passes, c.requires.count.1))
    (ap (λ p. p.items) c.in-Err-worked.ensures.refused ∙ c.in-Ok.ensures.passes) closed.begins once in (
      [],
      subst (λ (u : World). Takes team.workers team.spies.now c.args.root w c.args.opening.value.notes [] u c.close-core-in-Err-worked.result.notes) same (and_tries c.close-core-in-Err-worked.result.notes at_start (λ one. absurd (c.requires.several one))),
      omega arith,
    )

pub returns-in-Err : goal.returns-in-Err
returns-in-Err g c =
    let team = c.args.team.now in
    subst (λ (o : Core). TakesAtMost c.args.most team.workers team.spies.now c.args.root c.args.opening.value.world c.args.opening.value.notes o.world o.notes) (sym c.in-Err.ensures.refused) ([], at_start, omega arith)
