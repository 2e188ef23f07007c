use Rattle.ghc_match.proofs.Words.{◌≡◌, ◌<◌, [], ◌∷◌, ◌++◌, refl, sym, ap, subst, value_at, Tree, Clause, ahead_in, ahead_of, all_ahead}
use Rattle.ghc_match.proofs.WalkedPositions.{walk_ends, head_parts, opens_more}
use Rattle.ghc_match.proofs.MeetingLemmas.{IsFresh, fresh_last}
use Rattle.ghc_match.proofs.MatchHead.{HeadSoFar, head_begins, head_goes_on, all_clashes}
use Rattle.ghc_match.proofs.RefusalSearch.{alone}
use Rattle.ghc_match.proofs.refusal.visit_all.Goals as goal

pub visit-requires : goal.visit-requires
visit-requires c =
    let h = c.args.head.now in
    let t = c.args.term.now in
    let met = c.args.met.now in
    let nothing = c.requires.nothing in
    let begun = head_begins (value_at c.args.store.now.held) (h ∷ []) (t ∷ []) met.clashes met.stands met.wanted met.looked (alone h c.requires.distinct) nothing.0 nothing.1 nothing.2 nothing.3 in
    fresh_last [] (h, t) met.stands begun.fresh

pub loop-part-init : goal.loop-part-init
loop-part-init c =
    let S = value_at c.args.store.now.held in
    let h = c.args.head.now in
    let t = c.args.term.now in
    let old = c.args.met.now in
    let new = c.visit.new.met in
    let nothing = c.requires.nothing in
    let said = c.in_ok-here.ensures in
    let here = c.in_ok-here.here in
    let begun = head_begins S (h ∷ []) (t ∷ []) old.clashes old.stands old.wanted old.looked (alone h c.requires.distinct) nothing.0 nothing.1 nothing.2 nothing.3 in
    let one = head_goes_on S (h ∷ []) (t ∷ []) old.clashes new.clashes old.stands new.stands old.wanted new.wanted old.looked new.looked
    ((h, t) ∷ []) [] (ahead_in here) (h, t) begun refl said.clashes said.stands said.wanted said.looked said.opens in
    let first : all_ahead here c.new-pending.result.items ≡ ahead_in here = ap (λ l. ahead_of l ++ ahead_in here) c.new-pending.ensures.items in
    subst (HeadSoFar S (h ∷ []) (t ∷ []) new.clashes new.stands new.wanted new.looked) (sym first) one

pub visit-requires-in-Some : goal.visit-requires-in-Some
visit-requires-in-Some c =
    let pair : Tree × Tree = (c.in-Some.part.now, c.in-Some.other.now) in
    fresh_last (all_ahead c.next_pair.new.here c.next_pair.new.pending.items) pair c.loop-part.met.stands (subst (IsFresh c.loop-part.met.stands) c.in-Some.ensures c.loop-part.invariant.fresh)

pub loop-part-smaller : goal.loop-part-smaller
loop-part-smaller c =
    let S = value_at c.args.store.now.held in
    let h = c.in-Some.part.now in
    let t = c.in-Some.other.now in
    let old = all_ahead c.loop-part.here c.loop-part.pending.items in
    let rest = all_ahead c.next_pair.new.here c.next_pair.new.pending.items in
    let new = all_ahead c.go_below.new.here c.go_below.new.pending.items in
    let less : head_parts new < head_parts old = walk_ends S old rest new (h, t) c.in-Some.ensures (opens_more S h t rest new (ahead_in c.in_ok-below.below) c.in_ok-below.ensures.opens c.in_ok-go_below.ensures) in
    less

pub loop-part-preserved : goal.loop-part-preserved
loop-part-preserved c =
    let S = value_at c.args.store.now.held in
    let h = c.in-Some.part.now in
    let t = c.in-Some.other.now in
    let rest = all_ahead c.next_pair.new.here c.next_pair.new.pending.items in
    let after = all_ahead c.go_below.new.here c.go_below.new.pending.items in
    let old = c.loop-part.met in
    let new = c.visit-in-Some.new.met in
    let said = c.in_ok-below.ensures in
    head_goes_on S (c.args.head.now ∷ []) (c.args.term.now ∷ []) old.clashes new.clashes old.stands new.stands old.wanted new.wanted old.looked new.looked
    (all_ahead c.loop-part.here c.loop-part.pending.items) rest after (h, t) c.loop-part.invariant c.in-Some.ensures said.clashes said.stands said.wanted said.looked
    (opens_more S h t rest after (ahead_in c.in_ok-below.below) said.opens c.in_ok-go_below.ensures)

pub returns : goal.returns
returns c =
    let S = value_at c.args.store.now.held in
    let h = c.args.head.now in
    let t = c.args.term.now in
    let met = c.loop-part.met in
    let one : Clause = record { name = []; head = h ∷ []; tests = []; body = [] } in
    let end = subst (HeadSoFar S (h ∷ []) (t ∷ []) met.clashes met.stands met.wanted met.looked) c.in_default.ensures c.loop-part.invariant in
    all_clashes one (t ∷ []) S met.clashes met.stands met.wanted met.looked end
