use Rattle.ghc_shared.proofs.Words.{ap, Opening, reply_of, hands_of, event_of, code_of}
use Rattle.ghc_shared.proofs.Answering.{called}
use Rattle.ghc_shared.proofs.telling.CoreGrowing.call.Goals as goal

pub returns-clause-adds : goal.returns-clause-adds
returns-clause-adds c =
    let w = c.args.self.now.world in
    let v = c.reply_to-reply.new.core.world in
    let told = c.reply_to-reply.ensures in
    called c.answers_add_what_they_tell.ensures w v c.args.ask c.reply_to-reply.result told.answer.0 c.tells_change-accepted.result c.tells_change-accepted.ensures c.stands.ensures.legal told.answer.1 told.anyway

pub returns-clause-opened : goal.returns-clause-opened
returns-clause-opened c =
    let w = c.args.self.now.world in
    let v = c.reply_to-reply.new.core.world in
    let told = c.reply_to-reply.ensures in
    ap (λ (o : Opening). code_of o) (c.answers_add_what_they_tell.ensures w v (hands_of c.args.ask) told.answer.0 (event_of c.args.ask) (reply_of c.reply_to-reply.result) told.answer.1).0
