use Rattle.ghc_match.proofs.Words.{◌≡◌, sym, ap, ◌∙◌, subst, refl, [], true, false, zip, value_at, IsValue, variable, ChainEnds, arguments, Opens, common_steps, arith}
use Rattle.ghc_match.proofs.Chains.{chains}
use Rattle.ghc_match.proofs.AlikeLemmas.{value_seen}
use Rattle.ghc_match.proofs.WalkedPositions.{opens_nothing, opens_no_terms}
use Rattle.ghc_match.proofs.MeetingLemmas.{clash_not, clash_new, clash_alike, asks_new, asks_not, passed_by, standing_value}
use Rattle.ghc_match.proofs.head.visit.Goals as goal
use Rattle.ghc_match.proofs.head.visit.Goals.{then-not-are_alike, else-not-are_alike}

pub returns-in-Var-clause-opens : goal.returns-in-Var-clause-opens
returns-in-Var-clause-opens c =
    let s = c.args.store.now.held in
    let ch = chains s c.acyclic.ensures c.args.term.now in
    subst (Opens (value_at s) c.args.head.now c.args.term.now []) (sym c.none.ensures) (opens_nothing (value_at s) c.args.head.now c.args.term.now ch.1 [] (ap arguments (sym c.in-Var.ensures.shown)) (ch.0, ch.2))

pub returns-in-Var-view : goal.returns-in-Var-view
returns-in-Var-view c =
    let S = value_at c.args.store.now.held in
    let h = c.args.head.now in
    let t = c.args.term.now in
    let x = c.in-Var-view.x in
    let old = c.args.met.now in
    let vh : IsValue h = value_seen _ _ c.view.ensures.shown c.in_default.not-Var in
    let l : ChainEnds S t (variable x) = subst (ChainEnds S t) (sym c.in-Var-view.ensures.shown) c.in_ok-end.ensures.end in
    record {
      clashes = clash_not S h t old.clashes x l;
      stands = standing_value h t old.stands vh;
      wanted = asks_new S h t old.wanted c.insert.new.self x vh l c.in_ok-insert.ensures.ok;
      looked = passed_by S h t old.looked c.follow_noting.new.looked vh c.in_ok-end.ensures.looked;
      opens = subst (Opens S h t []) (sym c.none-in-Var-view.ensures) (opens_no_terms S h t (variable x) [] refl l);
    }

pub returns : goal.returns
returns c =
    let S = value_at c.args.store.now.held in
    let h = c.args.head.now in
    let t = c.args.term.now in
    let e = c.in_ok-end.end.now in
    let old = c.args.met.now in
    let vh : IsValue h = value_seen _ _ c.view.ensures.shown c.in_default.not-Var in
    let ve : IsValue e = value_seen _ _ c.view-2.ensures.shown c.in_default-view.not-Var in
    let new = c.if-not-are_alike.met in
    let kept : (new.stands ≡ old.stands) × (new.wanted ≡ old.wanted) × (new.looked ≡ c.follow_noting.new.looked) = grind (arith, common_steps) in
    record {
      clashes = elim c.if-not-are_alike.branch [
        | then-not-are_alike w ↦ rw w.met-is
            (clash_new S h t old.clashes e vh c.in_ok-end.ensures.end ve
            (λ a. let clash : false ≡ true = sym w.if-not-are_alike.true ∙ c.are_alike.ensures.1 a in cc))
        | else-not-are_alike w ↦ rw w.met-is (clash_alike S h t old.clashes e c.in_ok-end.ensures.end (c.are_alike.ensures.0 w.if-not-are_alike.false))
      ];
      stands = kept.0 ∙ standing_value h t old.stands vh;
      wanted = rw kept.1 (asks_not S h t old.wanted e c.in_ok-end.ensures.end ve);
      looked = rw kept.2 (passed_by S h t old.looked c.follow_noting.new.looked vh c.in_ok-end.ensures.looked);
      opens = (e, c.in_ok-end.ensures.end, c.all.ensures ∙ (λ i. zip (c.arguments_of.ensures i) (c.arguments_of-2.ensures i)));
    }
