use Rattle.ghc_records.proofs.Words.{◌≡◌, ◌≢◌, ◌++◌, List, ℕ, Option, Some, None, IfSome, IfNone, MatchOption, Decides-eqb, strip_prefix_is}
use Rattle.std.proofs.Common.{Bor}
use Rattle.ghc_records.proofs.text.cutting.behind.Goals as goal

either : (bytes front : List ℕ) (r : Option (Bor (List ℕ))) → MatchOption r ((rest : List ℕ) → bytes ≢ front ++ rest) (λ x. bytes ≡ front ++ x.now)
    → IfSome r (λ rest. bytes ≡ front ++ rest.now) × IfNone r ((rest : List ℕ) → bytes ≢ front ++ rest)
either bytes front None m = (tt, m)
either bytes front (Some x) m = (m, tt)

pub returns : goal.returns
returns c =
    let (some, none) = either _ _ _ (strip_prefix_is Decides-eqb c.args.bytes.now c.args.front.now c.strip_prefix.result c.strip_prefix.ensures.cases) in
    record { some = some; none = none }
