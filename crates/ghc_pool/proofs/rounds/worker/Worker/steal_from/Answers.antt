use Rattle.ghc_pool.proofs.Words.{◌<◌, ◌++◌, [], ◌∷◌, length, sym, ap, ◌∙◌, subst, arith, append-nil, stealer_deque, view, Victim, IsVictim}
use Rattle.ghc_pool.proofs.Stealing.{victim_at, stole}
use Rattle.ghc_pool.proofs.rounds.worker.Worker.steal_from.Goals as goal

pub steal-requires : goal.steal-requires
steal-requires c =
    let w = c.args.self.now in
    let low : c.args.index < length w.victims.items = omega (arith, w.victims.ok.0, c.requires.index) in
    subst IsVictim (sym c.index_mut.ensures.value) (victim_at w.victims.items c.args.index c.index_mut.result.now low c.requires.able.others)

pub returns-in-Success-clause-found : goal.returns-in-Success-clause-found
returns-in-Success-clause-found c =
    let v = c.index_mut.result.now in
    let is = c.index_mut.ensures.value in
    let t = c.in-Success.ensures in
    stole c.args.self.now c.args.index v c.steal.new.self (c.in-Success.name ∷ []) c.requires.index c.requires.able t.0 (t.1 ∙ ap (λ (u : Victim). stealer_deque u.thief) is) (t.2 ∙ ap (λ (u : Victim). (view u.pass).got ++ c.in-Success.name ∷ []) is)

pub returns-in-Retry-clause-found : goal.returns-in-Retry-clause-found
returns-in-Retry-clause-found c =
    let is = c.index_mut.ensures.value in
    let t = c.in-Retry.ensures in
    stole c.args.self.now c.args.index c.index_mut.result.now c.steal.new.self [] c.requires.index c.requires.able t.0 (t.1 ∙ ap (λ (u : Victim). stealer_deque u.thief) is) (t.2 ∙ ap (λ (u : Victim). (view u.pass).got) is ∙ sym (append-nil _))

pub returns-in-Empty-clause-found : goal.returns-in-Empty-clause-found
returns-in-Empty-clause-found c =
    let is = c.index_mut.ensures.value in
    let t = c.in-Empty.ensures in
    stole c.args.self.now c.args.index c.index_mut.result.now c.steal.new.self [] c.requires.index c.requires.able t.0 (t.1 ∙ ap (λ (u : Victim). stealer_deque u.thief) is) (t.2 ∙ ap (λ (u : Victim). (view u.pass).got) is ∙ sym (append-nil _))
