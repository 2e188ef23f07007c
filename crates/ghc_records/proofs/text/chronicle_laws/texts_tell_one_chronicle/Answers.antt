use Rattle.ghc_records.proofs.Words.{◌≡◌, ℕ, List, Ok, Tree, IsReadBody, IsReadTerm, WrittenAsk}
use Rattle.ghc_records.proofs.OneChronicle.{never_wrong, one_chronicle}
use Rattle.ghc_records.proofs.text.chronicle_laws.texts_tell_one_chronicle.Goals as goal

pub returns : goal.returns
returns c =
    let one_term : (text : List ℕ) (u other : Tree) → IsReadTerm text u → IsReadTerm text other → u ≡ other = λ text u other h k. (c.read_ground_term_is_exact.ensures text (Ok u) (h, tt)).gives other k in
    let one_body : (text : List ℕ) (a other : WrittenAsk) → IsReadBody text a → IsReadBody text other → a ≡ other = λ text a other h k. (c.read_body_is_exact.ensures text (Ok a) (h, tt)).gives other k in
    record {
      one = λ text x y h k. one_chronicle one_term one_body text x y h k;
      never_wrong = λ text x line h. never_wrong one_term one_body text x line h;
    }
