use Rattle.ghc_records.proofs.Words.{◌+◌, ap, refl, arith, drop_all, most_open}
use Rattle.std.proofs.lemmas.Bool.{false≢true}
use Rattle.ghc_records.proofs.OpenBytes.{IsLeft, left_more, left_open}
use Rattle.ghc_records.proofs.text.brackets.opens_many.Goals as goal
use Rattle.ghc_records.proofs.text.brackets.opens_many.Goals.{After-open_behind-depth}

-- what is left after the next byte
next_left : (c : After-open_behind-depth) → IsLeft c.args.text.now (c.loop-byte.byte-index + 1) c.open_behind-depth.result
next_left c =
    left_more c.args.text.now c.loop-byte.byte-index c.loop-byte.depth c.open_behind-depth.result c.loop-byte.invariant.few c.loop-byte-test.true c.open_behind-depth.ensures c.loop-byte.invariant.left

pub returns-then-depth-gt-MOST_OPEN : goal.returns-then-depth-gt-MOST_OPEN
returns-then-depth-gt-MOST_OPEN c =
    let next = next_left (goal.at.returns-then-depth-gt-MOST_OPEN c).After-open_behind-depth in
    (λ h. left_open c.args.text.now (c.loop-byte.byte-index + 1) c.open_behind-depth.result next (omega arith), λ h. refl)

pub loop-byte-preserved : goal.loop-byte-preserved
loop-byte-preserved c =
    record { few = omega arith; left = next_left (goal.at.loop-byte-preserved c).After-open_behind-depth }

pub returns : goal.returns
returns c =
    let text = c.args.text.now in
    let end = ap (most_open c.loop-byte.depth) (drop_all c.loop-byte.byte-index text (omega arith)) in
    (λ wrong. absurd (false≢true wrong), λ many. absurd (omega (arith, c.loop-byte.invariant.left.0 many, end, c.loop-byte.invariant.few)))
