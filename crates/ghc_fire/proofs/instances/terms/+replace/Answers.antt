use Rattle.ghc_fire.proofs.Words.{rules, ◌≡◌, ℕ, ◌<◌, length, List, [], ◌∷◌, ◌++◌, ap, arith, IfOk-weaker, MatchOption-at_some, Tree, node, trees, height, height_of_all, height_item, height_last, height_front, replacement}
use Rattle.ghc_fire.proofs.Rebuilding.{replace_closed}
use Rattle.ghc_fire.proofs.Walked.{walk_stays, walk_same, walk_other}
use Rattle.ghc_fire.proofs.instances.terms.+replace.Goals as goal

-- the last argument is lower than the structure
last_lower : (f : List ℕ) (whole front : List Tree) (last place : Tree) → node f (trees whole) ≡ place → whole ≡ front ++ last ∷ [] → height last < height place
last_lower f whole front last place e w = let seen = ap height e in let all = ap (λ l. height_of_all (trees l)) w in omega (arith, height_last front last, all, seen)

pub replace_each-replace_part-requires : goal.replace_each-replace_part-requires
replace_each-replace_part-requires t c =
    let falls = height_item c.args.terms.now c.loop-term.term-index c.term-item.result c.loop-term-test.true c.term-item.is in
    (omega (arith, falls, c.decreases), tt)

pub replace_part-returns-then-is_closed : goal.replace_part-returns-then-is_closed
replace_part-returns-then-is_closed t c = replace_closed (replacement c.args.by) c.args.term.now (c.is_closed.ensures.0 c.if-is_closed.true)

pub replace_open-returns-then-is_closed : goal.replace_open-returns-then-is_closed
replace_open-returns-then-is_closed t c =
    let same = replace_closed (replacement c.args.by) c.loop-place.place.now (c.is_closed.ensures.0 c.if-is_closed.true) in
    IfOk-weaker c.rebuild_some.result _ _ (walk_stays _ c.args.term.now _ _ _ _ c.loop-place.invariant.walked same) c.rebuild_some.ensures

pub replace_open-replace_each-requires : goal.replace_open-replace_each-requires
replace_open-replace_each-requires t c =
    let split = (MatchOption-at_some _ _ c.unwrap.result c.unwrap.ensures c.split_last.ensures.cases).0 in
    let front = height_front c.unwrap.result.1.now c.unwrap.result.0.now in
    let whole = ap (λ l. height_of_all (trees l)) split in
    let seen = ap height c.in-Struct.ensures.shown in
    (omega (arith, front, whole, seen, c.loop-place.invariant.lower, c.decreases), tt)

pub replace_open-loop-place-smaller-then-changed : goal.replace_open-loop-place-smaller-then-changed
replace_open-loop-place-smaller-then-changed t c =
    last_lower _ _ _ _ _ c.in-Struct.ensures.shown (MatchOption-at_some _ _ c.unwrap.result c.unwrap.ensures c.split_last.ensures.cases).0

pub replace_open-loop-place-preserved-then-changed : goal.replace_open-loop-place-preserved-then-changed
replace_open-loop-place-preserved-then-changed t c =
    let split = (MatchOption-at_some _ _ c.unwrap.result c.unwrap.ensures c.split_last.ensures.cases).0 in
    let less = last_lower _ _ _ _ _ c.in-Struct.ensures.shown split in
    let counted : c.len-count.result ≡ length c.push.new.self.items = search rules in
    record {
      lower = omega (arith, less, c.loop-place.invariant.lower);
      walked = walk_other (replacement c.args.by) c.args.term.now _ _ _ _ c.loop-place.invariant.walked _ _ _ _ _ c.in-Struct.ensures.shown split
          c.push.new.self.items c.in_ok-push-in-Struct.ensures.items c.in_ok-name-in-Struct.ensures.same c.in_ok-arguments-in-Struct.ensures.arguments c.len-count.result counted;
    }

pub replace_open-loop-place-smaller : goal.replace_open-loop-place-smaller
replace_open-loop-place-smaller t c =
    last_lower _ _ _ _ _ c.in-Struct.ensures.shown (MatchOption-at_some _ _ c.unwrap.result c.unwrap.ensures c.split_last.ensures.cases).0

pub replace_open-loop-place-preserved : goal.replace_open-loop-place-preserved
replace_open-loop-place-preserved t c =
    let split = (MatchOption-at_some _ _ c.unwrap.result c.unwrap.ensures c.split_last.ensures.cases).0 in
    let less = last_lower _ _ _ _ _ c.in-Struct.ensures.shown split in
    record {
      lower = omega (arith, less, c.loop-place.invariant.lower);
      walked = walk_same (replacement c.args.by) c.args.term.now _ _ _ _ c.loop-place.invariant.walked _ _ _ _ _ c.in-Struct.ensures.shown split
          c.push.new.self.items c.in_ok-push-in-Struct.ensures.items c.in_ok-name-in-Struct.ensures.same c.in_ok-arguments-in-Struct.ensures.arguments (c.in_ok-arguments-in-Struct.ensures.changed c.if-changed.false);
    }
