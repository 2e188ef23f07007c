-- A line says one entry, and one predicate.
use Rattle.ghc_records.proofs.Words.{◌≡◌, ◌≢◌, ℕ, suc, ◌+◌, inl, inr, All, List, [], ◌∷◌, ◌++◌, true, false, get_or, refl, sym, ap, ◌∙◌, subst, arith, append_assoc, decimal, codes, append_cancel_left, Tree, IsReadBody, IsReadTerm, WrittenAsk, asked_of, Asked as asked, Predicate, Step, Entry, took, undid, rolled, redid, reordered, goal_name_text, SaysStep, IsNamed, SaysAsking, SaysEntry, entry_text, numbers_behind, SaysPredicate}
use Rattle.ghc_records.proofs.AskingLines.{asking_apart}
use Rattle.ghc_records.proofs.CutLemmas.{number_plain, one_number}
use Rattle.ghc_records.proofs.EntryLines.{cut_numbers, digit_first, one_word, step_alone}
use Rattle.ghc_records.proofs.OneStep.{one_step}
use Rattle.ghc_records.proofs.PredicateLines.{name_plain, predicate_apart}

-- numbers after spaces are written in one way
one_order : (ns ms : List ℕ) → All IsNamed ns → All IsNamed ms → numbers_behind ns ≡ numbers_behind ms → ns ≡ ms
one_order [] [] all other e = refl
one_order (n ∷ ns) (m ∷ ms) all other e =
    let small : IsNamed n = all 0 0 (omega arith) in
    let low : IsNamed m = other 0 0 (omega arith) in
    let rest : decimal n ++ numbers_behind ns ≡ decimal m ++ numbers_behind ms = append_cancel_left (codes " ") (decimal n ++ numbers_behind ns) (decimal m ++ numbers_behind ms) e in
    let parts = one_word (decimal n) (decimal m) (numbers_behind ns) (numbers_behind ms) (number_plain 32 n refl small.1) (number_plain 32 m refl low.1) (cut_numbers ns) (cut_numbers ms) rest in
    ap (λ k. k ∷ ns) (one_number n m small.1 low.1 parts.0)
    ∙ ap (λ l. m ∷ l) (one_order ns ms (λ k d less. all (suc k) d (omega (arith, less))) (λ k d less. other (suc k) d (omega (arith, less))) parts.1)
one_order ns ms all other e = cc

-- numbers after one word
same_number : (word : List ℕ) (line : List ℕ) (n m : ℕ) → line ≡ word ++ decimal n → line ≡ word ++ decimal m → IsNamed n → IsNamed m → n ≡ m
same_number word line n m e f small low = one_number n m small.1 low.1 (append_cancel_left word (decimal n) (decimal m) (sym e ∙ f))

-- lines that begin otherwise
apart : (line a b : List ℕ) → get_or a 0 0 + get_or a 1 0 ≢ get_or b 0 0 + get_or b 1 0 → line ≡ a → line ≡ b → ⊥
apart line a b other e f = other (ap (λ l. get_or l 0 0 + get_or l 1 0) (sym e ∙ f))

module _ (one_term : (text : List ℕ) (u other : Tree) → IsReadTerm text u → IsReadTerm text other → u ≡ other)
    (one_body : (text : List ℕ) (a other : WrittenAsk) → IsReadBody text a → IsReadBody text other → a ≡ other) where
  one_asking : (line : List ℕ) (s t : Step) → SaysAsking line s → SaysAsking line t → s ≡ t
  one_asking line s t h k =
      let parts = asking_apart line (decimal s.number) (codes "- ask " ++ h.body) t h.parts (number_plain 32 s.number refl h.number.1) k in
      let number = one_number s.number t.number h.number.1 k.number.1 parts.0 in
      let body : h.body ≡ k.body = append_cancel_left (codes "- ask ") h.body k.body parts.1 in
      let asks = one_body k.body h.says.0 k.says.0 (subst (λ l. IsReadBody l h.says.0) body h.says.1) k.says.1 in
      let goals : h.goals ≡ k.goals = h.says.3 ∙ ap asked_of asks ∙ sym k.says.3 in
      let act = h.asks ∙ ap asked goals ∙ sym k.asks in
      let goal = h.of_none ∙ sym k.of_none in
      λ i. record { number = number i; goal = goal i; act = act i }

  -- a step with a goal is none without
  not_both : (line : List ℕ) (s t : Step) → SaysStep line s → ¬ SaysAsking line t
  not_both line s t h k =
      let parts = asking_apart line (decimal s.number) (goal_name_text h.goal ++ (codes " " ++ h.act)) t h.parts (number_plain 32 s.number refl h.number.1) k in
      let clash : true ≡ false =
      sym (digit_first (goal_name_text h.goal ++ (codes " " ++ h.act)) _ _ h.goal.step 45 h.goal_numbers.0 (append_assoc (decimal h.goal.step) (codes "." ++ decimal h.goal.place) (codes " " ++ h.act)) parts.1) ∙ refl in
      cc

  pub one_taken : (line : List ℕ) (s t : Step) → SaysEntry line (took s) → SaysEntry line (took t) → s ≡ t
  one_taken line s t (inl h) (inl k) = one_step one_term line s t h k
  one_taken line s t (inl h) (inr k) = absurd (not_both line s t h k)
  one_taken line s t (inr h) (inl k) = absurd (not_both line t s k h)
  one_taken line s t (inr h) (inr k) = one_asking line s t h k

  taken_only : (line : List ℕ) (s : Step) (e : Entry) → SaysEntry line (took s) → SaysEntry line e → took s ≡ e
  taken_only line s e says other =
      let k = step_alone line s e says other in
      ap took (one_taken line s k.0 says (subst (SaysEntry line) k.1 other)) ∙ sym k.1

  pub one_entry : (line : List ℕ) (e f : Entry) → SaysEntry line e → SaysEntry line f → e ≡ f
  one_entry line (took s) f h k = taken_only line s f h k
  one_entry line (undid n) (undid m) h k = ap undid (same_number (codes "undo ") line n m h.0 k.0 h.1 k.1)
  one_entry line (rolled n) (rolled m) h k = ap rolled (same_number (codes "roll ") line n m h.0 k.0 h.1 k.1)
  one_entry line (redid n) (redid m) h k = ap redid (same_number (codes "redo ") line n m h.0 k.0 h.1 k.1)
  one_entry line (reordered ns) (reordered ms) h k =
      ap reordered (one_order ns ms h.1 k.1 (append_cancel_left (codes "arrange") (numbers_behind ns) (numbers_behind ms) (sym h.0 ∙ k.0)))
  one_entry line e (took t) h k = sym (taken_only line t e k h)
  one_entry line e f h k = absurd (apart line (entry_text e) (entry_text f) (λ same. omega (arith, same)) h.0 k.0)

pub one_predicate : (line : List ℕ) (p q : Predicate) → SaysPredicate line p → SaysPredicate line q → p ≡ q
one_predicate line p q h k =
    let parts = predicate_apart line p.name (decimal p.arity) q h.0 (name_plain p.name h.1) k in
    let name = parts.0 in
    let arity = one_number p.arity q.arity h.2 k.2 parts.1 in
    λ i. record { name = name i; arity = arity i }
