use Rattle.ghc_records.proofs.Words.{◌≡◌, ◌≢◌, List, ℕ, Result, Err, subst, MatchResult, Fault, IsExact, Tree, a_term, IsRefusal, IsReadTerm}
use Rattle.ghc_records.proofs.text.step_reading.read_input.Goals as goal

no_term : (text : List ℕ) (r : Result Tree Fault) (f : Fault) → IsExact (IsReadTerm text) (IsRefusal a_term text) r → r ≡ Err f → f ≢ Fault.Memory → (u : Tree) → ¬ IsReadTerm text u
no_term text r f exact is other u says = other (subst (λ q. MatchResult q (λ b. b ≡ u) (λ e. e ≡ Fault.Memory)) is (exact.gives u says))

pub returns-else-is_memory-clause-none : goal.returns-else-is_memory-clause-none
returns-else-is_memory-clause-none c =
    no_term c.args.text.now c.read_ground_term.result c.in-Err.fault (c.read_ground_term_is_exact.ensures c.args.text.now c.read_ground_term.result c.read_ground_term.ensures.answer) c.in-Err.is (c.is_memory.ensures c.if-is_memory.false)
