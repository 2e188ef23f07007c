-- The lines of histories, as they are written.
use Rattle.ghc_records.proofs.Words.{◌≡◌, ℕ, List, [], ◌∷◌, ◌++◌, length, map, refl, sym, ap, ◌∙◌, append_assoc, decimal, codes, step_text, History, history_text, lines_text}

-- the text of lines that follow others
pub lines_after : (front back : List (List ℕ)) → lines_text (front ++ back) ≡ lines_text front ++ lines_text back
lines_after [] back = refl
lines_after (line ∷ front) back = ap (λ l. line ++ (codes "\n" ++ l)) (lines_after front back) ∙ sym (append_assoc line (codes "\n" ++ lines_text front) (lines_text back))

-- piece by piece, the text of a history is written
pub history_written : (h : History) (old a b c d e f g : List ℕ) → a ≡ old ++ codes "ghc-history 1\nsteps " → b ≡ a ++ decimal (length h.steps) → c ≡ b ++ codes "\n" → d ≡ c ++ lines_text (map step_text h.steps)
    → e ≡ d ++ codes "end " → f ≡ e ++ decimal h.next → g ≡ f ++ codes "\n" → g ≡ old ++ history_text h
history_written h old a b c d e f g a_is b_is c_is d_is e_is f_is g_is = simp (g_is, f_is, e_is, d_is, c_is, b_is, a_is, append_assoc, lines_after)
