use Rattle.ghc_flat.proofs.Words.{ℕ, ◌+◌, ◌*◌, ◌≤◌, take, Result, Ok, VarName, trees, height, height_of_all, variables, variables_of_list, CountsTo}
use Rattle.ghc_flat.proofs.counting.+count.Given as goal

abbrev pub decreases-count_term : goal.decreases-count_term
decreases-count_term l = 2 * height l.term.now + 1

abbrev pub decreases-count_terms : goal.decreases-count_terms
decreases-count_terms l = 2 * height_of_all (trees l.terms.now)

-- what the rest counts to, the whole term counts to
abbrev pub invariant-count_term-loop-x : goal.invariant-count_term-loop-x
invariant-count_term-loop-x l =
    (height l.part ≤ height l.fn.term)
    × ((r : Result ℕ VarName) → CountsTo (variables l.part) l.last r → CountsTo (variables l.fn.term) l.initial.last r)

abbrev pub decreases-count_term-loop-x : goal.decreases-count_term-loop-x
decreases-count_term-loop-x l = height l.part

abbrev pub invariant-count_terms-loop-term : goal.invariant-count_terms-loop-term
invariant-count_terms-loop-term l = CountsTo (variables_of_list (take l.term-index l.terms)) l.initial.last (Ok l.last)
