use Rattle.ghc_trace.proofs.Words.{◌+◌, ◌++◌, drop, [], ◌∷◌, sym, ap, ◌∙◌, append_assoc, arith, refl, string_bytes, codes, StartsWith, common_steps, drop_all, not_both, resumed, port_text, ports_text, WaitsWhereBound, Former, resumed_text}
use Rattle.ghc_trace.proofs.Writing.{next_left, written_on, passed_by, all_written}
use Rattle.ghc_trace.proofs.news.write_each_resumed.Goals as goal
use Rattle.ghc_trace.proofs.news.write_each_resumed.Goals.{then-waits_where_bound+in_ok-write_resumed, else-waits_where_bound}

pub loop-goal-preserved : goal.loop-goal-preserved
loop-goal-preserved c =
    let es = c.args.goals.now in
    let i = c.loop-goal.goal-index in
    let e = c.loop-goal-item.result in
    let Waits : Former → Type 0 = λ e. WaitsWhereBound c.args.step.now e.1 in
    let next = next_left es i e c.loop-goal-test.true c.loop-goal-item.is in
    let port = port_text (resumed e.0) in
    elim c.if-waits_where_bound.branch [
      | then-waits_where_bound+in_ok-write_resumed w ↦
          let begun : StartsWith (string_bytes w.write_resumed.new.out) (string_bytes c.args.out.now) = grind (arith, common_steps) in
          rw w.out-is (record {
            rest = written_on Waits resumed_text es e (drop i es) (drop (i + 1) es) (ports_text (resumed e.0 ∷ [])) (string_bytes c.loop-goal.out) (string_bytes c.args.out.now) (string_bytes w.write_resumed.new.out)
                c.loop-goal.invariant.rest next (c.waits_where_bound.ensures.0 w.if-waits_where_bound.true)
                (λ more. sym (append_assoc port (codes "\n" ++ []) (resumed_text more) ∙ ap (λ t. port ++ t) (append_assoc (codes "\n") [] (resumed_text more))))
                w.in_ok-write_resumed.ensures.text;
            begun = begun;
          })
      | else-waits_where_bound w ↦ rw w.out-is (record {
        rest = passed_by Waits resumed_text es e (drop i es) (drop (i + 1) es) (string_bytes c.loop-goal.out) (string_bytes c.args.out.now)
            c.loop-goal.invariant.rest next (λ h. not_both c.waits_where_bound.result w.if-waits_where_bound.false (c.waits_where_bound.ensures.1 h));
        begun = c.loop-goal.invariant.begun;
      })
    ]

pub returns-clause-text : goal.returns-clause-text
returns-clause-text c =
    all_written (λ e. WaitsWhereBound c.args.step.now e.1) resumed_text c.args.goals.now _ (string_bytes c.loop-goal.out) (string_bytes c.args.out.now) c.loop-goal.invariant.rest (drop_all c.loop-goal.goal-index c.args.goals.now c.loop-goal-test.false) refl
