-- Lemmas on entries that follow each other.
use Rattle.ghc_records.proofs.Words.{◌≡◌, ℕ, ◌+◌, ◌≤◌, List, [], ◌∷◌, ◌++◌, refl, arith, number_limit, Entry, took, AreInTurn, IsInTurn, next_after, next_behind}

pub turn_more : (n : ℕ) (es : List Entry) (e : Entry) → AreInTurn n es → IsInTurn (next_behind n es) e → AreInTurn n (es ++ e ∷ [])
turn_more n [] e all last = (last, tt)
turn_more n (f ∷ es) e all last = (all.0, turn_more (next_after n f) es e all.1 last)

pub turn_last : (n : ℕ) (es : List Entry) (e : Entry) → AreInTurn n (es ++ e ∷ []) → IsInTurn (next_behind n es) e
turn_last n [] e all = all.0
turn_last n (f ∷ es) e all = turn_last (next_after n f) es e all.1

pub next_more : (n : ℕ) (es : List Entry) (e : Entry) → next_behind n (es ++ e ∷ []) ≡ next_after (next_behind n es) e
next_more n [] e = refl
next_more n (f ∷ es) e = next_more (next_after n f) es e

-- the next number is none that is too great
pub next_fits : (n : ℕ) (es : List Entry) → n ≤ number_limit → AreInTurn n es → next_behind n es ≤ number_limit
next_fits n [] small all = small
next_fits n (took s ∷ es) small all = next_fits (n + 1) es (omega (arith, all.0.1)) all.1
next_fits n (e ∷ es) small all = next_fits n es small all.1
