-- How texts go over into pieces.
use Rattle.ghc_term.proofs.Words.{◌≡◌, ℕ, suc, ◌+◌, ◌-◌, ◌<◌, ◌≤◌, List, [], ◌∷◌, ◌++◌, length, get_or, take, drop, take_all, refl, sym, ap, ◌∙◌, append_assoc, append-nil, arith, StartsWith, common_steps, Result, Ok, Err, IfOk, is_ok, codes, if◌then◌else◌, Piece, Tree, piece_text, pieces_text, piece_size, pieces_size, Advances}

module _ (r : Tree → Tree) (w : Tree → ℕ) where
  text_push : (ps : List Piece) (p : Piece) → pieces_text r (ps ++ p ∷ []) ≡ piece_text r p ++ pieces_text r ps
  text_push [] p = sym (append-nil (piece_text r p))
  text_push (q ∷ ps) p = ap (λ l. l ++ piece_text r q) (text_push ps p) ∙ append_assoc (piece_text r p) (pieces_text r ps) (piece_text r q)

  size_push : (ps : List Piece) (p : Piece) → pieces_size w (ps ++ p ∷ []) ≡ piece_size w p + pieces_size w ps
  size_push [] p = omega arith
  size_push (q ∷ ps) p = omega (arith, size_push ps p)

  -- the whole text was written
  pub wrote : (text : List ℕ) (size : ℕ) (ps : List Piece) (before after : List ℕ) → after ≡ before ++ text → 1 ≤ size → Advances r w text size ps ps before after
  wrote text size ps before after e h = record {
    whole = ap (λ l. l ++ pieces_text r ps) e ∙ append_assoc before text (pieces_text r ps);
    smaller = omega arith;
  }

  -- a mark was written, and two pieces were left
  pub left_two : (mark : List ℕ) (p q : Piece) (old mid new : List Piece) (before after : List ℕ) → after ≡ before ++ mark → mid ≡ old ++ p ∷ [] → new ≡ mid ++ q ∷ []
      → Advances r w (mark ++ (piece_text r q ++ piece_text r p)) (suc (piece_size w q + piece_size w p)) old new before after
  left_two mark p q old mid new before after e m n = record {
    whole = rw (e, n, text_push mid q, m, text_push old p) (simp append_assoc);
    smaller = omega (arith, ap (pieces_size w) n, size_push mid q, ap (pieces_size w) m, size_push old p);
  }

  -- one piece was left
  pub left_one : (p : Piece) (old new : List Piece) (before : List ℕ) → new ≡ old ++ p ∷ [] → Advances r w (piece_text r p) (suc (piece_size w p)) old new before before
  left_one p old new before n = record {
    whole = rw (n, text_push old p) refl;
    smaller = omega (arith, ap (pieces_size w) n, size_push old p);
  }

  -- three pieces were left
  pub left_three : (p q s : Piece) (old mid late new : List Piece) (before : List ℕ) → mid ≡ old ++ p ∷ [] → late ≡ mid ++ q ∷ [] → new ≡ late ++ s ∷ []
      → Advances r w (piece_text r s ++ (piece_text r q ++ piece_text r p)) (suc (piece_size w s + piece_size w q + piece_size w p)) old new before before
  left_three p q s old mid late new before m l n = record {
    whole = rw (n, text_push late s, l, text_push mid q, m, text_push old p) (simp append_assoc);
    smaller = omega (arith, ap (pieces_size w) n, size_push late s, ap (pieces_size w) l, size_push mid q, ap (pieces_size w) m, size_push old p);
  }

  -- the same wherever it stands
  pub anywhere : (text : List ℕ) (size : ℕ) (old new : List Piece) (before : List ℕ) → Advances r w text size old new [] [] → Advances r w text size old new before before
  anywhere text size old new before a = record { whole = ap (λ l. before ++ l) a.whole; smaller = a.smaller }

  -- a text stood in front, and was written first
  pub behind : (front text : List ℕ) (size : ℕ) (old new : List Piece) (before mid after : List ℕ) → mid ≡ before ++ front → Advances r w text size old new mid after → Advances r w (front ++ text) size old new before after
  behind front text size old new before mid after e a = record {
    whole = a.whole ∙ ap (λ l. l ++ (text ++ pieces_text r old)) e ∙ simp append_assoc;
    smaller = a.smaller;
  }

  -- the text is another word for it, and the size is no smaller
  pub as_said : (said text : List ℕ) (size room : ℕ) (old new : List Piece) (before after : List ℕ) → text ≡ said → size ≤ room → Advances r w said size old new before after → Advances r w text room old new before after
  as_said said text size room old new before after e h a = record {
    whole = a.whole ∙ ap (λ l. before ++ (l ++ pieces_text r old)) (sym e);
    smaller = omega (arith, a.smaller);
  }

  -- a part of the text was written before, and the rest of it goes on
  pub resumed : (text rest : List ℕ) (size room : ℕ) (first old new : List Piece) (before mid after : List ℕ) → old ≡ first → mid ++ rest ≡ before ++ text → size ≤ room
      → Advances r w rest size old new mid after → Advances r w text room first new before after
  resumed text rest size room first old new before mid after p e h a = record {
    whole = a.whole ∙ sym (append_assoc mid rest (pieces_text r old)) ∙ ap (λ l. l ++ pieces_text r old) e ∙ append_assoc before text (pieces_text r old)
        ∙ ap (λ ps. before ++ (text ++ pieces_text r ps)) p;
    smaller = omega (arith, a.smaller, ap (pieces_size w) p);
  }

  -- what was to be written in front of the old pieces begins so
  pub starts : (said text : List ℕ) (size : ℕ) (old new : List Piece) (before after : List ℕ) → text ≡ said → Advances r w said size old new before after → after ++ pieces_text r new ≡ before ++ (text ++ pieces_text r old)
  starts said text size old new before after e a = a.whole ∙ ap (λ l. before ++ (l ++ pieces_text r old)) (sym e)

  -- one piece alone
  pub alone : (p : Piece) (old new : List Piece) → old ≡ [] → new ≡ old ++ p ∷ [] → pieces_text r new ≡ piece_text r p
  alone p old new e n = ap (pieces_text r) n ∙ text_push old p ∙ ap (λ ps. piece_text r p ++ pieces_text r ps) e ∙ append-nil (piece_text r p)

  -- a piece is taken from the pieces
  pub taken : (p : Piece) (all old new : List Piece) (before after : List ℕ) → all ≡ old ++ p ∷ [] → Advances r w (piece_text r p) (piece_size w p) old new before after
      → (after ++ pieces_text r new ≡ before ++ pieces_text r all) × (pieces_size w new < pieces_size w all)
  taken p all old new before after e a = (
    a.whole ∙ ap (λ l. before ++ l) (sym (text_push old p) ∙ ap (pieces_text r) (sym e)),
    omega (arith, a.smaller, size_push old p, ap (pieces_size w) e),
  )

-- what begins with a text that begins so
pub through : (old mid new : List ℕ) → StartsWith mid old → StartsWith new mid → StartsWith new old
through old mid new p q = grind (arith, common_steps)

-- a front was written, and the text comes after it
pub joined : (before front text rest mid after : List ℕ) → mid ≡ before ++ front → after ≡ mid ++ (text ++ rest) → after ≡ before ++ (front ++ (text ++ rest))
joined before front text rest mid after p q = q ∙ ap (λ l. l ++ (text ++ rest)) p ∙ append_assoc before front (text ++ rest)

-- a text after a space
pub spaced : (word text rest : List ℕ) → (word ++ codes " ") ++ (text ++ rest) ≡ (word ++ (codes " " ++ text)) ++ rest
spaced word text rest = append_assoc word (codes " ") (text ++ rest) ∙ sym (append_assoc word (codes " " ++ text) rest)

-- what a call wrote, if it succeeded
pub if_written : {E : Type 0} (result : Result (Unit {0}) E) (new text old : List ℕ) → new ≡ (if is_ok result then text else old) → IfOk result (λ _. new ≡ text)
if_written (Ok u) new text old e = e
if_written (Err x) new text old e = tt

-- a list by its first element
pub first_rest : (ts : List Tree) (t : Tree) → 1 ≤ length ts → t ≡ get_or ts 0 t → ts ≡ t ∷ take (length ts - 1) (drop 1 ts)
first_rest [] t h e = absurd (omega arith)
first_rest (u ∷ ts) t h e = ap (λ v. v ∷ ts) (sym e) ∙ ap (λ vs. t ∷ vs) (sym (take_all (length (u ∷ ts) - 1) ts (omega arith)))
