-- What is written of some of the goals of a list, one after another.
use Rattle.ghc_trace.proofs.Words.{◌≡◌, true, ℕ, ◌+◌, ◌<◌, ◌++◌, List, [], ◌∷◌, length, get_or, drop, refl, sym, ap, subst, ◌∙◌, append_assoc, append-nil, drop_more, Result, Ok, Err, is_ok, OnOk, Picks, nothing, leave, Former}
use Rattle.ghc_records.specs.Orders.{take}

-- the next of the goals left
pub next_left : (es : List Former) (i : ℕ) (e : Former) → i < length es → e ≡ get_or es i e → drop i es ≡ e ∷ drop (i + 1) es
next_left es i e within is = drop_more es i e within ∙ ap (λ d. d ∷ drop (i + 1) es) (sym is)

module _ (P : Former → Type 0) (text : List Former → List ℕ) (es : List Former) where
  -- With the texts of those picked out of the goals left, `out` is the old text, and after it the texts of all that are picked out.
  abbrev pub IsWritten : List Former → List ℕ → List ℕ → Type 0
  IsWritten left out old = (more : List Former) → Picks P left more → (whole : List Former) × Picks P es whole × (out ++ text more ≡ old ++ text whole)

  -- a goal is written
  pub written_on : (e : Former) (now left : List Former) (here out old new : List ℕ) → IsWritten now out old → now ≡ e ∷ left → P e → ((more : List Former) → text (e ∷ more) ≡ here ++ text more)
      → new ≡ out ++ here → IsWritten left new old
  written_on e now left here out old new h s p cut n more k =
      let w = h (e ∷ more) (subst (λ l. Picks P l (e ∷ more)) (sym s) (take p k)) in
      (w.0, w.1, ap (λ o. o ++ text more) n ∙ append_assoc out here (text more) ∙ ap (λ t. out ++ t) (sym (cut more)) ∙ w.2)

  -- a goal is left out
  pub passed_by : (e : Former) (now left : List Former) (out old : List ℕ) → IsWritten now out old → now ≡ e ∷ left → ¬ P e → IsWritten left out old
  passed_by e now left out old h s n more k = h more (subst (λ l. Picks P l more) (sym s) (leave n k))

  -- all are written
  pub all_written : (now : List Former) (out old : List ℕ) → IsWritten now out old → now ≡ [] → text [] ≡ [] → (picked : List Former) × Picks P es picked × (out ≡ old ++ text picked)
  all_written now out old h s none =
      let w = h [] (subst (λ l. Picks P l []) (sym s) nothing) in
      (w.0, w.1, sym (append-nil out) ∙ ap (λ t. out ++ t) (sym none) ∙ w.2)

-- what holds of one answer where it is good holds of the other
pub when_ok : {T E : Type 0} (r s : Result T E) (P Q : Type 0) → s ≡ r → OnOk r P → (is_ok r ≡ true → P → Q) → OnOk s Q
when_ok (Ok x) s P Q e p f = subst (λ z. OnOk z Q) (sym e) (f refl p)
when_ok (Err x) s P Q e p f = subst (λ z. OnOk z Q) (sym e) tt
