use Rattle.ghc_trace.proofs.Telling.{news_told}
use Rattle.ghc_trace.proofs.laws.notes_tell_news.Goals as goal

pub returns : goal.returns
returns c = news_told
