use Rattle.ghc_trace.proofs.Words.{◌≡◌, ◌++◌, List, Goal, codes, refl, sym, ap, ◌∙◌, subst, inl, inr, append_assoc, string_bytes, In, StoreValue}
use Rattle.ghc_trace.specs.BlameLines.{AreMadeGoals, fault_of_query, only, query_is_too_long}
use Rattle.ghc_trace.specs.GoalLines.{IsTooLong}
use Rattle.ghc_trace.proofs.BlameTold.{in_slice}
use Rattle.ghc_trace.proofs.verdict_lines.write_fault_of_query.Goals as goal

pub returns-in-Err-clause-too_long : goal.returns-in-Err-clause-too_long
returns-in-Err-clause-too_long c e rs t answers about fault =
    let long = c.write_all_made.ensures.too_long (c.in-Err.is ∙ e) in
    query_is_too_long long.0 fault (inl (subst (λ (l : List Goal). In long.0 l) (c.goals.ensures.same ∙ c.query.ensures.goals) long.1)) (subst (λ (s : StoreValue). IsTooLong s long.0) (sym about.world.left) long.2)

pub returns-in-Err-write_all_asked-clause-too_long : goal.returns-in-Err-write_all_asked-clause-too_long
returns-in-Err-write_all_asked-clause-too_long c e rs t answers about fault =
    let d = c.args.told.now in
    let k = c.write_all_asked.ensures.too_long (c.in-Err-write_all_asked.is ∙ e) in
    let long = k.2 in
    let there = in_slice d.core.now.world.kept rs d.steps.now about.world.steps c.stands.ensures.orderly.kept_once long.0 long.2.0 (subst (λ n. In n d.steps.now) (sym long.2.1) k.1) in
    query_is_too_long long.1 fault (inr (long.0, there, long.3, long.4)) (subst (λ (s : StoreValue). IsTooLong s long.1) (sym about.world.left) long.5)

pub returns-clause-text : goal.returns-clause-text
returns-clause-text c rs t answers about fault =
    let d = c.args.told.now in
    let w = d.core.now.world in
    let old = string_bytes c.args.out.now in
    let same : c.goals.result.now ≡ w.opening.query = c.goals.ensures.same ∙ c.query.ensures.goals in
    let m = c.in-Ok.ensures.text rs t about (inl (refl, sym same)) in
    let a = c.in-Ok-write_all_asked.ensures.text rs t about in
    let made = subst (λ (l : List Goal). AreMadeGoals (only w rs t) d.target 0 l m.0) same m.1 in (
      m.0 ++ (a.0 ++ codes "fault 0\n"),
      fault_of_query fault made a.1,
      c.in_ok-push_str.ensures.bytes ∙ ap (λ l. l ++ codes "fault 0\n") (a.2 ∙ ap (λ l. l ++ a.0) m.2 ∙ append_assoc old m.0 a.0) ∙ append_assoc old (m.0 ++ a.0) (codes "fault 0\n") ∙ ap (λ l. old ++ l) (append_assoc m.0 a.0 (codes "fault 0\n")),
    )
