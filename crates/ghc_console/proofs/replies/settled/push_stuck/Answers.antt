use Rattle.ghc_console.proofs.CitedWords.{rules, ◌≡◌, ◌++◌, [], sym, ap, subst, ◌∙◌, append-nil, string_bytes, nil_from_length, AreStuckOtherwise, news_text, IsJustChanged}
use Rattle.ghc_console.proofs.Settling.{appended, told_by_notes}
use Rattle.ghc_console.proofs.replies.settled.push_stuck.Goals as goal

pub returns-clause-told : goal.returns-clause-told
returns-clause-told c = appended c.push_str.result (string_bytes c.push_str.new.self) (string_bytes c.args.reply.now) c.as_str.result.now c.push_str.ensures.bytes (λ is w change notes j.
    let d = c.args.disturbed.now in
    let front = string_bytes c.args.reply.now in
    let after = c.in_ok-settle.ensures in
    let stuck = c.in_ok-push_news.ensures.ok in
    let lines = c.as_str.ensures.value ∙ stuck.2 ∙ ap (λ l. l ++ news_text stuck.0) c.new-lines.ensures.bytes in
    told_by_notes c.notes_tell_news.ensures w c.settle.new.core.world change notes c.args.core.now.notes c.settle.new.core.notes d front (string_bytes c.push_str.new.self)
    (subst (λ v. IsJustChanged w change notes v c.args.core.now.notes d) (sym after.world) j) c.settle.ensures.kept after.settled
    (stuck.0, subst (λ n. AreStuckOtherwise n d stuck.0) c.tries.ensures.notes stuck.1, is ∙ ap (λ l. front ++ l) lines))

pub returns-then-is_empty-clause-told : goal.returns-then-is_empty-clause-told
returns-then-is_empty-clause-told c w change notes j =
    let d = c.args.disturbed.now in
    let front = string_bytes c.args.reply.now in
    let after = c.in_ok-settle.ensures in
    let stuck = c.in_ok-push_news.ensures.ok in
    let text = string_bytes c.push_news.new.out in
    let nothing : text ≡ [] = nil_from_length text (search rules) in
    let lines : text ≡ news_text stuck.0 = stuck.2 ∙ ap (λ l. l ++ news_text stuck.0) c.new-lines.ensures.bytes in
    told_by_notes c.notes_tell_news.ensures w c.settle.new.core.world change notes c.args.core.now.notes c.settle.new.core.notes d front front
    (subst (λ v. IsJustChanged w change notes v c.args.core.now.notes d) (sym after.world) j) c.settle.ensures.kept after.settled
    (stuck.0, subst (λ n. AreStuckOtherwise n d stuck.0) c.tries.ensures.notes stuck.1, sym (append-nil front) ∙ ap (λ l. front ++ l) (sym nothing ∙ lines))
