use Rattle.ghc_hooks.proofs.Words.{subst, on_ok_weaker, value_at, LooksAt, Gains}
use Rattle.ghc_hooks.proofs.Hearing.{HeardToo, refusal_heard, wait_heard, acceptance_heard, gains_by}
use Rattle.ghc_hooks.proofs.heard.Heard.hear.Goals as goal
use Rattle.ghc_hooks.proofs.heard.Heard.hear.Goals.{in-No, in-Waits+in_ok-join-in-Waits, in-Yes}

pub returns : goal.returns
returns c =
    let clause = c.args.clause.now in
    let ts = c.args.arguments.now in
    let S = value_at c.args.store.now.held in
    let h = c.args.self.now in
    let laid = c.in_ok-says.ensures in
    let said : HeardToo clause ts S h c.match-says.self = elim c.match-says.branch [
      | in-No w ↦ rw w.self-is (refusal_heard clause ts S h (rw w.in-No.is at laid.outcome))
      | in-Waits+in_ok-join-in-Waits w ↦
          let outcome = rw w.in-Waits.is at laid.outcome in
          rw w.self-is (wait_heard clause ts S h c.lay_clause.new.met.wanted w.join.new.gathered outcome w.in_ok-join-in-Waits.ensures)
      | in-Yes w ↦ rw w.self-is (acceptance_heard clause ts S h (rw w.in-Yes.is at laid.outcome).0)
    ] in
    record {
      accepts = on_ok_weaker c.join-2.result (λ g. said.0) c.join-2.ensures;
      awaited = on_ok_weaker c.join-2.result (λ g. said.1) c.join-2.ensures;
      looked = on_ok_weaker c.join-2.result (λ g. subst (λ s. Gains s c.join-2.new.gathered (LooksAt clause ts S)) said.2 (gains_by c.match-says.self.looked c.join-2.new.gathered laid.looked g)) c.join-2.ensures;
    }
