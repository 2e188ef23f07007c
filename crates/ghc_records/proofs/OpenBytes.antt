-- How many brackets are open, one byte after the other.
use Rattle.ghc_records.proofs.Words.{◌≡◌, ℕ, ◌+◌, ◌<◌, ◌≤◌, ◌↔◌, List, length, get_or, drop, ap, arith, drop_more, most_open, open_behind, OpensFew}
use Rattle.ghc_term.proofs.Nesting.{at_least}

-- The bytes after the first ones, where k are open, show whether the text opens more than 1,000.
abbrev pub IsLeft : List ℕ → ℕ → ℕ → Type 0
IsLeft text i k = (1000 < most_open 0 text) ↔ (1000 < most_open k (drop i text))

pub left_more : (text : List ℕ) (i k m : ℕ) → k ≤ 1000 → i < length text → m ≡ open_behind k (get_or text i 0) → IsLeft text i k → IsLeft text (i + 1) m
left_more text i k m few within is left =
    let here = ap (most_open k) (drop_more text i 0 within) in
    let behind = ap (λ n. most_open n (drop (i + 1) text)) is in
    (λ h. omega (arith, few, left.0 h, here, behind), λ h. left.1 (omega (arith, h, few, here, behind)))

pub left_open : (text : List ℕ) (i k : ℕ) → IsLeft text i k → 1000 < k → 1000 < most_open 0 text
left_open text i k left many = left.1 (omega (arith, many, at_least k (drop i text)))

pub few_open : (text : List ℕ) → ¬ (1000 < most_open 0 text) → OpensFew text
few_open text many = omega (arith, many)
