use Rattle.ghc_match.proofs.Words.{◌≡◌, ◌<◌, ◌++◌, refl, true, false, sym, ap, ◌∙◌, subst, zip, value_at, Tree, ahead_in, ahead_of, all_ahead}
use Rattle.ghc_match.proofs.WalkedPositions.{walk_ends, head_parts, opens_more}
use Rattle.ghc_match.proofs.MeetingLemmas.{IsFresh, fresh_last}
use Rattle.ghc_match.proofs.MatchHead.{HeadSoFar, head_begins, head_goes_on, clash_found, all_clashes, all_stands, all_wanted, all_looked}
use Rattle.ghc_match.proofs.until_no.match_until_clash.Goals as goal

pub loop-head-init : goal.loop-head-init
loop-head-init c =
    let S = value_at c.args.store.now.held in
    let hs = c.args.clause.now.head in
    let ts = c.args.arguments.now in
    let here = c.all-here.result in
    let met = c.args.met.now in
    let nothing = c.requires.nothing in
    let first : all_ahead here c.clear.new.self.items ≡ zip hs ts = ap (λ l. ahead_of l ++ ahead_in here) c.clear.ensures.items ∙ c.all-here.ensures ∙ ap (λ l. zip l ts) c.head.ensures in
    subst (HeadSoFar S hs ts met.clashes met.stands met.wanted met.looked) (sym first)
    (head_begins S hs ts met.clashes met.stands met.wanted met.looked c.requires.linear nothing.0 nothing.1 nothing.2 nothing.3)

pub visit-requires : goal.visit-requires
visit-requires c =
    let pair : Tree × Tree = (c.in-Some.head.now, c.in-Some.term.now) in
    fresh_last (all_ahead c.next_pair.new.here c.next_pair.new.pending.items) pair c.loop-head.met.stands (subst (IsFresh c.loop-head.met.stands) c.in-Some.ensures c.loop-head.invariant.fresh)

pub loop-head-smaller : goal.loop-head-smaller
loop-head-smaller c =
    let S = value_at c.args.store.now.held in
    let h = c.in-Some.head.now in
    let t = c.in-Some.term.now in
    let old = all_ahead c.loop-head.here c.loop-head.pending.items in
    let rest = all_ahead c.next_pair.new.here c.next_pair.new.pending.items in
    let new = all_ahead c.go_below.new.here c.go_below.new.pending.items in
    let less : head_parts new < head_parts old = walk_ends S old rest new (h, t) c.in-Some.ensures (opens_more S h t rest new (ahead_in c.in_ok-below.below) c.in_ok-below.ensures.opens c.in_ok-go_below.ensures) in
    less

pub loop-head-preserved : goal.loop-head-preserved
loop-head-preserved c =
    let S = value_at c.args.store.now.held in
    let h = c.in-Some.head.now in
    let t = c.in-Some.term.now in
    let rest = all_ahead c.next_pair.new.here c.next_pair.new.pending.items in
    let after = all_ahead c.go_below.new.here c.go_below.new.pending.items in
    let old = c.loop-head.met in
    let new = c.visit.new.met in
    let said = c.in_ok-below.ensures in
    head_goes_on S c.args.clause.now.head c.args.arguments.now old.clashes new.clashes old.stands new.stands old.wanted new.wanted old.looked new.looked
    (all_ahead c.loop-head.here c.loop-head.pending.items) rest after (h, t) c.loop-head.invariant c.in-Some.ensures said.clashes said.stands said.wanted said.looked
    (opens_more S h t rest after (ahead_in c.in_ok-below.below) said.opens c.in_ok-go_below.ensures)

pub returns-then-met : goal.returns-then-met
returns-then-met c =
    let S = value_at c.args.store.now.held in
    let h = c.in-Some.head.now in
    let t = c.in-Some.term.now in
    let rest = all_ahead c.next_pair.new.here c.next_pair.new.pending.items in
    let below = ahead_in c.in_ok-below.below in
    let old = c.loop-head.met in
    let new = c.visit.new.met in
    let said = c.in_ok-below.ensures in
    let far = head_goes_on S c.args.clause.now.head c.args.arguments.now old.clashes new.clashes old.stands new.stands old.wanted new.wanted old.looked new.looked
    (all_ahead c.loop-head.here c.loop-head.pending.items) rest (rest ++ below) (h, t) c.loop-head.invariant c.in-Some.ensures said.clashes said.stands said.wanted said.looked
    (opens_more S h t rest (rest ++ below) below said.opens refl) in
    let found = clash_found c.args.clause.now c.args.arguments.now S new.clashes new.stands new.wanted new.looked (rest ++ below) far c.if-met.true in
    record {
      clashes = (λ _. found, λ _. c.if-met.true);
      stands = λ e. absurd (let clash : true ≡ false = sym c.if-met.true ∙ e in cc);
      wanted = λ e. absurd (let clash : true ≡ false = sym c.if-met.true ∙ e in cc);
      looked = λ e. absurd (let clash : true ≡ false = sym c.if-met.true ∙ e in cc);
    }

pub returns : goal.returns
returns c =
    let S = value_at c.args.store.now.held in
    let met = c.loop-head.met in
    let end = subst (HeadSoFar S c.args.clause.now.head c.args.arguments.now met.clashes met.stands met.wanted met.looked) c.in_default.ensures c.loop-head.invariant in
    record {
      clashes = all_clashes c.args.clause.now c.args.arguments.now S met.clashes met.stands met.wanted met.looked end;
      stands = λ _. all_stands c.args.clause.now c.args.arguments.now S met.clashes met.stands met.wanted met.looked end;
      wanted = λ _. all_wanted c.args.clause.now c.args.arguments.now S met.clashes met.stands met.wanted met.looked end;
      looked = λ _. all_looked c.args.clause.now c.args.arguments.now S met.clashes met.stands met.wanted met.looked end;
    }
