use Rattle.ghc_pool.proofs.Words.{[], ◌∷◌, ◌++◌, ◌≡◌, ◌+◌, length, refl, sym, ap, ◌∙◌, subst, arith, length-append, Job, weigh}
use Rattle.std.specs.Prelude.{IfSome}
use Rattle.ghc_pool.specs.inner.Turns.{AreApart, names_in}
use Rattle.ghc_pool.proofs.Moves.{weigh-append}
use Rattle.ghc_pool.proofs.Turns.{gone_on, gone_with, decided, last_in, names_added, is_attempted}
use Rattle.ghc_pool.proofs.rounds.working.decide_hand.Goals as goal

pub handle-requires-clause-attempt : goal.handle-requires-clause-attempt
handle-requires-clause-attempt g c =
    let excerpts = g.C.Craft.excerpts c.args.crew.now.craft.now in
    let attempts = g.C.Craft.attempts c.args.crew.now.craft.now in
    let held = c.in-Some.held in
    let last = last_in excerpts attempts c.pop.new.self.items held (subst (λ l. AreApart excerpts attempts l) c.in-Some.ensures.items c.loop-held.invariant.1.apart) in
    subst (λ a. IfSome a (attempts held.name)) (sym c.attempted.ensures) (is_attempted excerpts attempts held.name held.apart last.1)

pub loop-held-preserved : goal.loop-held-preserved
loop-held-preserved g c =
    let fed = g.C.Craft.fed c.args.crew.now.craft.now in
    let asks = g.C.Craft.asks c.args.crew.now.craft.now in
    let tells = g.C.Craft.tells c.args.crew.now.craft.now in
    let excerpts = g.C.Craft.excerpts c.args.crew.now.craft.now in
    let attempts = g.C.Craft.attempts c.args.crew.now.craft.now in
    let was = c.loop-held.invariant in
    let job = c.args.job.now in
    let hand = c.loop-held.hand in
    let rest = c.pop.new.self in
    let held = c.in-Some.held in
    let out = c.in-Some.ensures.items in
    let h = c.handle.ensures in
    let names : names_in hand.items ≡ names_in rest.items ++ held.name ∷ [] = ap (λ l. names_in l) out ∙ names_added rest.items held in
    let last = last_in excerpts attempts rest.items held (subst (λ l. AreApart excerpts attempts l) out was.1.apart) in
    let count : length hand.items ≡ length rest.items + 1 = ap (λ l. length l) out ∙ length-append rest.items (held ∷ []) in
    let j : Job g.row.P.Denot g.row.L.Denot = record { number = job.number; worker = c.loop-held.worker; pass = c.loop-held.pass; share = job.share; spare = c.loop-held.spare } in
    let k : Job g.row.P.Denot g.row.L.Denot = record { number = job.number; worker = c.handle.new.self; pass = c.handle.new.pass; share = job.share; spare = c.handle.new.spare } in
    let went = decided fed asks tells held.name j k was.0.works h.keeps h.room h.well refl h.fewer.0 h.spent h.tells in (
      gone_on fed asks tells _ (names_in hand.items) (names_in rest.items) job j k was.0
          (gone_with fed asks tells (held.name ∷ []) [] (names_in hand.items) (names_in rest.items) j k (λ w. omega (arith, ap (λ l. weigh w l) names, weigh-append w (names_in rest.items) (held.name ∷ []))) went),
      record {
        permit = λ takes. omega (arith, was.1.permit takes, count, h.fewer.1);
        room = h.answered (length rest.items) (omega (arith, was.1.room, count));
        apart = last.0;
      },
    )
