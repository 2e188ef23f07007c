use Rattle.ghc_pool.proofs.Words.{◌≡◌, ◌++◌, [], ◌∷◌, refl, sym, ap, ◌∙◌, subst, arith, length, length-append, Job, weigh, HasGone}
use Rattle.ghc_pool.specs.inner.Turns.{AreApart, CanDecide, names_in}
use Rattle.ghc_pool.proofs.Moves.{weigh-append}
use Rattle.ghc_pool.proofs.Turns.{given, found, gone_on, gone_with, decided, names_added, apart_added}
use Rattle.ghc_pool.proofs.rounds.working.take_names.Goals as goal
use Rattle.ghc_pool.proofs.rounds.working.take_names.Goals.{then-not-hold, else-not-hold}

pub returns-in-Again-clause-gone : goal.returns-in-Again-clause-gone
returns-in-Again-clause-gone g c =
    let permit = c.if-not-is_permitted.ensures in
    let take = c.in-Again.ensures in
    let job = c.args.job.now in
    let names = names_in c.loop.hand.items in
    let j : Job g.row.P.Denot g.row.L.Denot = record { number = job.number; worker = c.loop.worker; pass = c.loop.pass; share = c.is_permitted.new.share; spare = c.is_permitted.new.spare } in
    found _ _ _ _ names names [] job j _ (λ h. omega arith) (given _ _ _ _ names job _ j c.loop.invariant.0 refl refl permit.part permit.counted permit.few) take.found take.same refl refl refl

pub returns-in-Nothing-clause-gone : goal.returns-in-Nothing-clause-gone
returns-in-Nothing-clause-gone g c =
    let permit = c.if-not-is_permitted.ensures in
    let take = c.in-Nothing.ensures in
    let job = c.args.job.now in
    let names = names_in c.loop.hand.items in
    let j : Job g.row.P.Denot g.row.L.Denot = record { number = job.number; worker = c.loop.worker; pass = c.loop.pass; share = c.is_permitted.new.share; spare = c.is_permitted.new.spare } in
    found _ _ _ _ names names [] job j _ (λ h. omega arith) (given _ _ _ _ names job _ j c.loop.invariant.0 refl refl permit.part permit.counted permit.few) take.found take.same refl refl refl

pub loop-preserved : goal.loop-preserved
loop-preserved g c =
    let fed = g.C.Craft.fed c.args.crew.now.craft.now in
    let asks = g.C.Craft.asks c.args.crew.now.craft.now in
    let tells = g.C.Craft.tells c.args.crew.now.craft.now in
    let excerpts = g.C.Craft.excerpts c.args.crew.now.craft.now in
    let attempts = g.C.Craft.attempts c.args.crew.now.craft.now in
    let takes = g.C.Craft.takes c.args.crew.now.craft.now in
    let was = c.loop.invariant in
    let permit = c.if-is_full.ensures in
    let given_now = c.if-not-is_permitted.ensures in
    let take = c.in-Name.ensures in
    let job = c.args.job.now in
    let name = c.in-Name.name in
    let hand = c.loop.hand in
    let names = names_in hand.items in
    let i : Job g.row.P.Denot g.row.L.Denot = record { number = job.number; worker = c.loop.worker; pass = c.loop.pass; share = c.loop.share; spare = c.loop.spare } in
    let j : Job g.row.P.Denot g.row.L.Denot = record { number = job.number; worker = c.loop.worker; pass = c.loop.pass; share = c.is_permitted.new.share; spare = c.is_permitted.new.spare } in
    let k : Job g.row.P.Denot g.row.L.Denot = record { number = job.number; worker = c.take.new.self; pass = c.loop.pass; share = c.is_permitted.new.share; spare = c.is_permitted.new.spare } in
    let before : HasGone fed asks tells (names_in c.args.hand.now.items) names job j = given fed asks tells _ names job i j was.0 refl refl given_now.part given_now.counted given_now.few in
    let room = take.room name refl in
    elim c.if-not-hold.branch [
      | then-not-hold w ↦
          let h = w.handle.ensures in
          let same = w.if-not-hold.ensures in
          let m : Job g.row.P.Denot g.row.L.Denot = record { number = job.number; worker = w.handle.new.self; pass = w.handle.new.pass; share = c.is_permitted.new.share; spare = w.handle.new.spare } in
          let with : HasGone fed asks tells (names_in c.args.hand.now.items) (names ++ name ∷ []) job k = found fed asks tells _ names (names ++ name ∷ []) (name ∷ []) job j k (λ h. weigh-append h names (name ∷ [])) before take.found take.same refl refl refl in
          let went = decided fed asks tells name k m with.works h.keeps h.room h.well refl h.fewer.0 h.spent h.tells in
          let now : HasGone fed asks tells (names_in c.args.hand.now.items) names job m =
          gone_on fed asks tells _ (names ++ name ∷ []) names job k m with (gone_with fed asks tells (name ∷ []) [] (names ++ name ∷ []) names k m (λ h. omega (arith, weigh-append h names (name ∷ []))) went) in
          let can : CanDecide excerpts attempts takes hand.items m = record {
            permit = λ t. omega (arith, permit.permit refl t, hand.ok.0, h.fewer.1);
            room = h.answered _ (omega (arith, room, c.len.ensures, hand.ok.0));
            apart = was.1.apart;
          } in
          rw w.worker-is (rw w.pass-is (rw w.spare-is (rw same (now, can))))
      | else-not-hold w ↦
          let added = w.if-not-hold.ensures in
          let x = added.0 in
          let new : names_in c.hold.new.hand.items ≡ names ++ name ∷ [] = ap (λ l. names_in l) added.1 ∙ names_added hand.items x ∙ ap (λ y. names ++ y ∷ []) added.2 in
          let now : HasGone fed asks tells (names_in c.args.hand.now.items) (names_in c.hold.new.hand.items) job k =
          found fed asks tells _ names _ (name ∷ []) job j k (λ h. ap (λ l. weigh h l) new ∙ weigh-append h names (name ∷ [])) before take.found take.same refl refl refl in
          let can : CanDecide excerpts attempts takes c.hold.new.hand.items k = record {
            permit = λ t. omega (arith, permit.permit refl t, ap (λ l. length l) added.1, length-append hand.items (x ∷ []), hand.ok.0);
            room = omega (arith, room, c.len.ensures, ap (λ l. length l) added.1, length-append hand.items (x ∷ []), hand.ok.0);
            apart = subst (λ l. AreApart excerpts attempts l) (sym added.1) (apart_added excerpts attempts hand.items x was.1.apart added.3);
          } in
          rw w.worker-is (rw w.pass-is (rw w.spare-is (now, can)))
    ]
