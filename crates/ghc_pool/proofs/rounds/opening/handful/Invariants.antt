use Rattle.ghc_pool.proofs.Words.{◌≡◌, ◌++◌, ℕ, List, length, vec_len, Global, RowsId, GoalName, AreVictims, deques, stolen, AreFreshFrom, deques_of}
use Rattle.ghc_pool.proofs.rounds.opening.handful.Given as goal

abbrev pub invariant-loop-index : goal.invariant-loop-index
invariant-loop-index l =
    AreFreshFrom l.index l.parts l.owners.items × (deques_of l.owners.items ≡ deques_of l.initial.owners.items) × AreVictims l.victims.items × ((h : GoalName → ℕ) → stolen h l.victims.items ≡ 0)
    × ((more : List (RowsId × Global)) × (deques_of l.owners.items ≡ deques l.victims.items ++ more)) × (length (deques l.victims.items) ≡ l.index) × (vec_len l.owners ≡ vec_len l.initial.owners)
