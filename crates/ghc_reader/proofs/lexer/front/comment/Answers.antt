use Rattle.ghc_reader.proofs.Forms.{comment_stands}
use Rattle.ghc_reader.proofs.lexer.front.comment.Goals as goal

pub returns : goal.returns
returns c = λ signs. (
  c.split_run.ensures.split,
  comment_stands signs c.args.text.now _ _ c.split_run.ensures.split c.split_run.ensures.each c.split_run.ensures.stops c.requires,
)
