use Rattle.ghc_reader.proofs.Words.{◌≡◌, ◌++◌, drop, arith, common_steps}
use Rattle.ghc_reader.proofs.Forms.{negative_stands}
use Rattle.ghc_reader.proofs.lexer.front.negative.Goals as goal

pub returns : goal.returns
returns c =
    let behind : drop 1 c.args.text.now ≡ c.split_run.result.0.now ++ c.split_run.result.1.now = grind (arith, common_steps) in
    let cut = negative_stands c.args.text.now c.split_run.result.0.now c.split_run.result.1.now c.split_at.result.0.now c.split_at.result.1.now c.requires behind c.split_run.ensures.each c.split_run.ensures.stops c.split_at.ensures.front c.split_at.ensures.back in
    (cut.split, cut.stands)
