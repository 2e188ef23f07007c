use Rattle.ghc_reader.proofs.Words.{◌≡◌, [], ◌∷◌, ◌++◌, sym, ap, ◌∙◌, plains, goal_views, test_view, test_views, value_view, map_push, reverse}
use Rattle.ghc_reader.proofs.ClauseFounds as founds
use Rattle.ghc_reader.proofs.clause_parser.as_body.Goals as goal

pub returns-in-Compare : goal.returns-in-Compare
returns-in-Compare c = λ gs e.
    let left = c.loop-test.tests.items in
    let popped = c.in-Some.ensures.items in
    let all : test_views left ≡ test_views c.pop.new.self.items ++ test_view c.in-Some.test ∷ [] = ap test_views popped ∙ map_push test_view c.pop.new.self.items c.in-Some.test in
    founds.no_goals (test_views c.pop.new.self.items) (plains (goal_views (reverse c.loop-test.goals.items))) (value_view c.in-Compare.field-0) (value_view c.in-Compare.field-2) c.in-Compare.field-1 gs
    (ap (λ t. (test_views c.pop.new.self.items ++ test_view t ∷ []) ++ plains (goal_views (reverse c.loop-test.goals.items))) (sym c.in-Compare.is)
    ∙ ap (λ l. l ++ plains (goal_views (reverse c.loop-test.goals.items))) (sym all) ∙ sym c.loop-test.invariant ∙ e)
