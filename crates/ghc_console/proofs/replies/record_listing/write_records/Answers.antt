use Rattle.ghc_console.proofs.CitedWords.{◌∙◌, arith, record_text}
use Rattle.ghc_console.proofs.ListedLines.{none_listed, some_listed}
use Rattle.ghc_console.proofs.replies.record_listing.write_records.Goals as goal

pub returns-then-len-eq0-clause-told : goal.returns-then-len-eq0-clause-told
returns-then-len-eq0-clause-told g c = none_listed record_text c.args.records.now.held _ _ c.write_all.result (omega (arith, c.if-len-eq0.true, c.len.ensures.count)) c.write_all.ensures.bytes

pub returns-clause-told : goal.returns-clause-told
returns-clause-told g c = some_listed record_text c.args.records.now.held _ _ c.write_each.result (λ none. c.if-len-eq0.false (c.len.ensures.count ∙ none)) c.write_each.ensures.told
