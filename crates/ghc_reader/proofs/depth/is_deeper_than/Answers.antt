use Rattle.ghc_reader.proofs.Words.{◌≡◌, ◌+◌, ◌<◌, length, take, refl, sym, ap, ◌∙◌, arith, false≢true, open_behind, open_after}
use Rattle.ghc_reader.proofs.Depths.{open_after-more, deep_at, nowhere_deep, up_to_more}
use Rattle.ghc_reader.proofs.depth.is_deeper_than.Goals as goal
use Rattle.ghc_reader.proofs.depth.is_deeper_than.Goals.{After-open_behind-depth}

-- the depth after the next token
next_depth : (c : After-open_behind-depth) → c.open_behind-depth.result ≡ open_after 0 (take (c.loop-token.token-index + 1) c.args.tokens.now)
next_depth c =
    let tokens = c.args.tokens.now in
    let i = c.loop-token.token-index in
    let item = c.token-item.result in
    let within : i < length tokens = omega arith in
    c.open_behind-depth.ensures ∙ ap (λ n. open_behind n item) c.loop-token.invariant.depth_is ∙ ap (open_behind (open_after 0 (take i tokens))) c.token-item.is ∙ sym (open_after-more 0 tokens i item within)

pub returns-then-depth-most : goal.returns-then-depth-most
returns-then-depth-most c =
    let next = next_depth (goal.at.returns-then-depth-most c).After-open_behind-depth in
    (λ h. deep_at c.args.most c.args.tokens.now (c.loop-token.token-index + 1) (omega arith), λ h. refl)

pub loop-token-preserved : goal.loop-token-preserved
loop-token-preserved c =
    let next = next_depth (goal.at.loop-token-preserved c).After-open_behind-depth in
    record {
      depth_is = next;
      shallow = up_to_more (λ k. open_after 0 (take k c.args.tokens.now)) c.args.most c.loop-token.token-index c.loop-token.invariant.shallow (omega arith);
    }

pub returns : goal.returns
returns c = (
  λ wrong. absurd (false≢true wrong),
  λ deep. absurd (nowhere_deep c.args.most c.args.tokens.now (λ k h. c.loop-token.invariant.shallow k (omega arith)) deep),
)
