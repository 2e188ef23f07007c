use Rattle.ghc_records.proofs.Words.{◌≡◌, ◌≢◌, ◌≤◌, ℕ, List, sym, ◌∙◌, arith, decimal, rules, greatest_number}
use Rattle.ghc_records.proofs.CutLemmas.{one_number}
use Rattle.ghc_records.proofs.text.cutting.positive.Goals as goal

zero_only : (word : List ℕ) (value : ℕ) → word ≡ decimal value → value ≡ 0 → (n : ℕ) → 1 ≤ n → n ≤ greatest_number → word ≢ decimal n
zero_only word value is zero n first small e = omega (arith, zero, first, one_number value n (omega (arith, zero)) small (sym is ∙ e))

pub returns-then-value-eq0-clause-none : goal.returns-then-value-eq0-clause-none
returns-then-value-eq0-clause-none c = zero_only c.args.word.now c.in-Some.value c.in-Some.ensures.some (search rules)
