-- What the replies say that tell lists, and causes among them.
use Rattle.ghc_console.proofs.CitedWords.{◌≡◌, ◌≢◌, ◌⊎◌, inl, inr, sym, subst, ap, ◌∙◌, List, [], ◌∷◌, ℕ, codes, Fault, IsNotKept, World, RepliesToWhy, not_kept, lined, lines_or_none, refusal, text_lines}
use Rattle.ghc_term.specs.declared.fault.Fault.TheVariants as fault

some_line : (t : List ℕ) (ts : List (List ℕ)) → text_lines (t ∷ ts) ≢ []
some_line [] ts e = cc
some_line (b ∷ bs) ts e = cc

-- The text has the lines, or `none` where there is no line.
pub lines_told : (texts : List (List ℕ)) (lines text : List ℕ) → lines ≡ text_lines texts → (lines ≡ [] → text ≡ lined (codes "none")) → (lines ≢ [] → text ≡ lines) → text ≡ lines_or_none texts
lines_told [] lines text are none some = none are
lines_told (t ∷ ts) lines text are none some = some (λ e. some_line t ts (sym are ∙ e)) ∙ are

-- A refusal of causes says that no such step is kept.
pub why_refused : (w : World) (n : ℕ) (f : Fault) (text : List ℕ) → (f ≡ fault.Memory) ⊎ ((f ≡ fault.NotKept) × IsNotKept w.kept n) → text ≡ refusal f → f ≢ fault.Memory → RepliesToWhy w n text
why_refused w n f text (inl m) told kept = absurd (kept m)
why_refused w n f text (inr q) told kept = subst (RepliesToWhy w n) (sym (told ∙ ap refusal q.0)) (not_kept q.1)
