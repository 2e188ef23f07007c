use Rattle.ghc_trace.proofs.Words.{◌+◌, ◌++◌, drop, sym, ap, arith, refl, string_bytes, StartsWith, common_steps, drop_all, status_of, news_line, IsNewsBy, standings_text}
use Rattle.ghc_trace.proofs.Writing.{next_left, written_on, passed_by, all_written}
use Rattle.ghc_trace.proofs.news.write_each_news.Goals as goal
use Rattle.ghc_trace.proofs.news.write_each_news.Goals.{in-Some+in_ok-write_news, in_default}

pub loop-goal-preserved : goal.loop-goal-preserved
loop-goal-preserved c =
    let notes = c.args.tries.now.notes in
    let es = c.args.goals.now in
    let i = c.loop-goal.goal-index in
    let e = c.loop-goal-item.result in
    let next = next_left es i e c.loop-goal-test.true c.loop-goal-item.is in
    elim c.match-news_of.branch [
      | in-Some+in_ok-write_news w ↦
          let begun : StartsWith (string_bytes w.write_news.new.out) (string_bytes c.args.out.now) = grind (arith, common_steps) in
          rw w.out-is (record {
            rest = written_on (IsNewsBy notes) (standings_text notes) es e (drop i es) (drop (i + 1) es) (news_line (e.0, status_of w.in-Some.verdict.now)) (string_bytes c.loop-goal.out) (string_bytes c.args.out.now) (string_bytes w.write_news.new.out)
                c.loop-goal.invariant.rest next w.in-Some.ensures.some
                (λ more. ap (λ s. news_line (e.0, s) ++ standings_text notes more) (sym w.in-Some.ensures.status))
                w.in_ok-write_news.ensures.text;
            begun = begun;
          })
      | in_default w ↦ rw w.out-is (record {
        rest = passed_by (IsNewsBy notes) (standings_text notes) es e (drop i es) (drop (i + 1) es) (string_bytes c.loop-goal.out) (string_bytes c.args.out.now) c.loop-goal.invariant.rest next w.in_default.ensures.none;
        begun = c.loop-goal.invariant.begun;
      })
    ]

pub returns-clause-text : goal.returns-clause-text
returns-clause-text c =
    let notes = c.args.tries.now.notes in
    all_written (IsNewsBy notes) (standings_text notes) c.args.goals.now _ (string_bytes c.loop-goal.out) (string_bytes c.args.out.now) c.loop-goal.invariant.rest (drop_all c.loop-goal.goal-index c.args.goals.now c.loop-goal-test.false) refl
