use Rattle.ghc_pool.proofs.Words.{length, take, drop, ap, ◌∙◌, subst, arith, take-append-drop, In, in_left}
use Rattle.ghc_pool.proofs.Unworked.{kept_count}
use Rattle.ghc_pool.proofs.runs.stretches.Team.take_together.Goals as goal

pub share-core-requires-clause-asked : goal.share-core-requires-clause-asked
share-core-requires-clause-asked g c κs within n i =
    let gs = c.args.ready.items in
    let cut = subst (λ l. In n l) c.truncate.ensures.items (subst (λ l. In n l) c.deref.ensures.value i) in
    c.requires.asked n (subst (λ l. In n l) (take-append-drop 1000000 gs) (in_left (take 1000000 gs) (drop 1000000 gs) n cut))

pub overflow_sub-result : goal.overflow_sub-result
overflow_sub-result g c =
    let team = c.args.self.now in
    let t = c.share-core.ensures in
    let more = kept_count team.workers team.spies.now c.args.root c.args.core.world c.share-core.result.world c.args.core.notes c.share-core.result.notes t.0 t.1 in
    let before = c.len-before.ensures.count ∙ ap (λ l. length l) c.records.ensures in
    let after = c.len-after.ensures.count ∙ ap (λ l. length l) c.records-2.ensures in
    omega (arith, before, after, more)

pub returns-clause-taken : goal.returns-clause-taken
returns-clause-taken g c =
    let team = c.args.self.now in
    let t = c.share-core.ensures in
    let more = kept_count team.workers team.spies.now c.args.root c.args.core.world c.share-core.result.world c.args.core.notes c.share-core.result.notes t.0 t.1 in
    let before = c.len-before.ensures.count ∙ ap (λ l. length l) c.records.ensures in
    let after = c.len-after.ensures.count ∙ ap (λ l. length l) c.records-2.ensures in
    (t.0, t.1, omega (arith, before, after, more))

pub returns-clause-few : goal.returns-clause-few
returns-clause-few g c =
    let team = c.args.self.now in
    let t = c.share-core.ensures in
    let more = kept_count team.workers team.spies.now c.args.root c.args.core.world c.share-core.result.world c.args.core.notes c.share-core.result.notes t.0 t.1 in
    let before = c.len-before.ensures.count ∙ ap (λ l. length l) c.records.ensures in
    let after = c.len-after.ensures.count ∙ ap (λ l. length l) c.records-2.ensures in
    omega (arith, before, after, more, t.2)
