use Rattle.std.proofs.Common.{◌≡◌, ◌≢◌, ◌++◌, ◌∷◌, [], All, List, ℕ, Option, Some, None, Bor, IfSome, IfNone}
use Rattle.ghc_records.specs.HistoryText.{pieces_of}
use Rattle.ghc_records.proofs.CutLemmas.{first_line, only_piece}
use Rattle.ghc_records.proofs.text.cutting.next_line.Goals as goal

either : (text : List ℕ) (r : Option (Bor (List ℕ) × Bor (List ℕ))) → IfSome r (λ parts. text ≡ parts.0.now ++ 10 ∷ parts.1.now) → IfSome r (λ parts. All (λ b. b ≢ 10) parts.0.now)
    → IfNone r (All (λ b. b ≢ 10) text) → IfSome r (λ parts. pieces_of text ≡ parts.0.now ∷ pieces_of parts.1.now) × IfNone r (pieces_of text ≡ text ∷ [])
either text None e h n = (tt, only_piece 10 text n)
either text (Some parts) e h n = (first_line text parts.0.now parts.1.now e h, tt)

pub returns : goal.returns
returns c =
    let (found, none) = either c.args.text.now c.cut.result c.cut.ensures.found c.cut.ensures.plain c.cut.ensures.none in
    record { found = found; none = none }
