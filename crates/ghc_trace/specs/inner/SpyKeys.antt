-- A predicate that is asked for stands for the one of its name and arity.
use Rattle.std.specs.Prelude.{◌≡◌, ℕ, List, IsTrue}
use Rattle.std.proofs.Common.{ap, ◌∙◌}
use Rattle.ghc_flat.specs.Numbers.{is_same_key}
use Rattle.ghc_flat.proofs.Numbers.{same_key}

-- what is said of the one is said of the other
pub said_of_both : {X : Type 0} (said : List ℕ → ℕ → X) (f g : List ℕ) (m n : ℕ) → IsTrue (is_same_key g n (f, m)) → said f m ≡ said g n
said_of_both said f g m n h = let same = same_key g n (f, m) h in ap (λ l. said l m) same.0 ∙ ap (said g) same.1
