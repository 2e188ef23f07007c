use Rattle.ghc_core.proofs.Words.{◌≡◌, ◌↔◌, subst, sym, ap, ◌∙◌, arith, IsProgram, GoalName, IsTrue, query_state, IsToTry, Opens, IsConsistent, TellStreams, opened as names_of}
use Rattle.std.specs.FinSet as set
use Rattle.ghc_core.proofs.Standing.{empty_opening, same_empty, empty_opens, empty_stands}
use Rattle.ghc_core.proofs.Exactness.{opened_exact}
use Rattle.ghc_core.proofs.StreamNames.{opened_tells}
use Rattle.ghc_core.proofs.core_state.Core.numbered_from.Goals as goal

pub invariant_of-result : goal.invariant_of-result
invariant_of-result c =
    let accepted : IsProgram c.args.program = c.clauses-clauses.ensures.program in
    let same = same_empty c.args.program c.args.query.goals c.args.query.variables c.args.next c.empty.ensures (c.in_ok-state.ensures ∙ ap query_state c.goals-goals.ensures.same) c.new-2.ensures c.new-3.ensures c.new-4.ensures in
    let opened = opened_exact c.args.program c.args.query.goals c.in_ok-tries.tries c.in_ok-tries.ensures.notes
    (subst (λ gs. (g : GoalName) → IsTrue (set.contains c.in_ok-tries.tries.untried g) ↔ IsToTry 0 gs g) c.goals-goals.ensures.same c.in_ok-tries.ensures.untried) in
    let names : c.in_ok-streams.streams ≡ names_of 1 c.args.query.goals = c.in_ok-streams.ensures ∙ ap (names_of 1) c.goals-goals.ensures.same in
    rw c.in_ok-program.ensures.ok (subst (λ w. IsConsistent w c.in_ok-tries.tries.notes c.in_ok-tries.tries.untried c.in_ok-streams.streams) same (record {
      standing = empty_stands c.args.program c.args.query.goals c.args.query.variables c.args.next c.requires.first (omega arith) accepted c.requires.query (record { named = c.goals-goals.ensures.well_asked.named; apart = c.goals-goals.ensures.well_asked.apart });
      exact = opened;
      streams = subst (TellStreams c.args.query.goals (query_state c.args.query.goals).goals) (sym names) (opened_tells c.args.program c.args.query.goals c.requires.query);
    }))

pub returns-clause-opens : goal.returns-clause-opens
returns-clause-opens c =
    let same = same_empty c.args.program c.args.query.goals c.args.query.variables c.args.next c.empty.ensures (c.in_ok-state.ensures ∙ ap query_state c.goals-goals.ensures.same) c.new-2.ensures c.new-3.ensures c.new-4.ensures in
    rw c.in_ok-program.ensures.ok (subst (Opens (empty_opening c.args.program c.args.query.goals c.args.query.variables c.args.next)) same
    (empty_opens c.args.program c.args.query.goals c.args.query.variables c.args.next c.requires.first (omega arith)))
