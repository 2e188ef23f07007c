use Rattle.ghc_core.proofs.Words.{◌≡◌, suc, ◌+◌, List, [], ◌∷◌, ◌++◌, take, sym, ap, ◌∙◌, arith, slice_get_read, GoalName, opened}
use Rattle.std.proofs.lemmas.List.{append-nil}
use Rattle.ghc_core.proofs.StreamNames.{opened_more, opened_one, opened_none}
use Rattle.ghc_core.proofs.stream_goals.StreamGoals.of_query.Goals as goal
use Rattle.ghc_core.proofs.stream_goals.StreamGoals.of_query.Goals.{then-is_stream+in_ok-push, else-is_stream}

pub loop-index-preserved : goal.loop-index-preserved
loop-index-preserved c =
    let gs = c.args.goals.now in
    let i = c.loop-index.index in
    let b = c.index-goals-index.result in
    let more = opened_more gs i 1 b (slice_get_read gs c.args.count i b c.requires c.loop-index-test.true c.index-goals-index.is) in
    let next : suc i ≡ i + 1 = omega arith in
    let before : List GoalName = c.loop-index.names.items in
    elim c.if-is_stream.branch [
      | then-is_stream+in_ok-push w ↦
          let stream = sym c.is_stream.ensures ∙ w.if-is_stream.true in
          ap (λ v. v.items) w.names-is ∙ w.in_ok-push.ensures.items ∙ ap (λ m. before ++ record { step = 0; place = m } ∷ []) (omega arith) ∙ ap (λ l. before ++ l) (sym (opened_one (1 + i) b stream))
          ∙ ap (λ l. l ++ opened (1 + i) (b ∷ [])) c.loop-index.invariant ∙ sym more ∙ ap (λ n. opened 1 (take n gs)) next
      | else-is_stream w ↦
          let plain = sym c.is_stream.ensures ∙ w.if-is_stream.false in
          ap (λ v. v.items) w.names-is ∙ sym (append-nil before) ∙ ap (λ l. before ++ l) (sym (opened_none (1 + i) b plain))
          ∙ ap (λ l. l ++ opened (1 + i) (b ∷ [])) c.loop-index.invariant ∙ sym more ∙ ap (λ n. opened 1 (take n gs)) next
    ]
