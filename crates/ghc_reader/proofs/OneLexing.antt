-- A text is cut in one way, up to its end or up to its first bad byte.
use Rattle.ghc_reader.proofs.Words.{◌≡◌, ◌⊎◌, ℕ, ◌≤◌, ◌+◌, Bool, true, List, [], ◌∷◌, ◌++◌, length, length-append, All, Result, Ok, Err, IfOk, IfErr, MatchResult, refl, sym, ap, subst, ◌∙◌, inl, inr, arith, append_cancel_left, All-head, All-tail, filter_map, Piece, HasForm, Stands, spelled, Cuts, signs_behind, signs_after, start, place_behind, fault_at, token_of, IsRefused, token_places, IsLexed, IsBadAt, IsLexFault, text_limit, IsErrAnd, Lexed, Token, Place, Reserved, Kind}
use Rattle.ghc_term.specs.declared.fault.Fault.{Fault}
use Rattle.ghc_term.specs.declared.fault.Fault.TheVariants as fault
use Rattle.ghc_term.specs.declared.limit.Limit.TheVariants as limit
use Rattle.ghc_reader.proofs.Forms.{no_form_is_empty}
use Rattle.ghc_reader.proofs.OnePiece.{one_piece}

-- a piece has a byte
no_piece_is_empty : (signs : Bool) (k : Kind) (bytes behind : List ℕ) → HasForm signs k bytes → bytes ++ behind ≡ [] → ⊥
no_piece_is_empty signs k [] behind form e = no_form_is_empty signs k form
no_piece_is_empty signs k (b ∷ bs) behind form e = cc

-- where a cut ends: at the end of the text, or where every piece is refused
abbrev pub Ends : Reserved → Bool → List ℕ → Type 0
Ends reserved signs rest =
    (rest ≡ []) ⊎ ((p : Piece) (more : List ℕ) → rest ≡ p.bytes ++ more → Stands signs p more → IsRefused reserved p)

pub record SameCut (ps qs : List Piece) (rest more : List ℕ) : Type 0 where
  pub pieces : ps ≡ qs
  pub behind : rest ≡ more

module _ (reserved : Reserved) where
  -- no cut that ends goes on
  no_further : (signs : Bool) (rest : List ℕ) (q : Piece) (more : List ℕ) → Ends reserved signs rest → rest ≡ q.bytes ++ more → Stands signs q more → ¬ (IsRefused reserved q) → ⊥
  no_further signs rest q more (inl ended) e stands fine = no_piece_is_empty signs q.kind q.bytes more stands.form (sym e ∙ ended)
  no_further signs rest q more (inr refused) e stands fine = fine (refused q more e stands)

  pub same_cut : (signs : Bool) (ps qs : List Piece) (rest more : List ℕ) → Cuts signs ps rest → Cuts signs qs more → All (λ p. ¬ (IsRefused reserved p)) ps → All (λ p. ¬ (IsRefused reserved p)) qs → Ends reserved (signs_after signs ps) rest → Ends reserved (signs_after signs qs) more → spelled ps rest ≡ spelled qs more → SameCut ps qs rest more
  same_cut signs [] [] rest more cuts cuts' fine fine' ends ends' e = record { pieces = refl; behind = e }
  same_cut signs [] (q ∷ qs) rest more cuts cuts' fine fine' ends ends' e =
      absurd (no_further signs rest q (spelled qs more) ends e cuts'.0 (All-head (λ p. ¬ (IsRefused reserved p)) q qs fine'))
  same_cut signs (p ∷ ps) [] rest more cuts cuts' fine fine' ends ends' e =
      absurd (no_further signs more p (spelled ps rest) ends' (sym e) cuts.0 (All-head (λ q. ¬ (IsRefused reserved q)) p ps fine))
  same_cut signs (p ∷ ps) (q ∷ qs) rest more cuts cuts' fine fine' ends ends' e =
      let same = one_piece signs p q (spelled ps rest) (spelled qs more) cuts.0 cuts'.0 e in
      let tails : spelled ps rest ≡ spelled qs more = append_cancel_left q.bytes (spelled ps rest) (spelled qs more) (ap (λ x. Piece.bytes x ++ spelled ps rest) (sym same) ∙ e) in
      let cuts'' = subst (λ x. Cuts (signs_behind signs (Piece.kind x)) qs more) (sym same) cuts'.1 in
      let ends'' = subst (λ x. Ends reserved (signs_after (signs_behind signs (Piece.kind x)) qs) more) (sym same) ends' in
      let others = same_cut (signs_behind signs p.kind) ps qs rest more cuts.1 cuts'' (All-tail (λ x. ¬ (IsRefused reserved x)) p ps fine) (All-tail (λ x. ¬ (IsRefused reserved x)) q qs fine') ends ends'' tails in
      record { pieces = λ i. same i ∷ others.pieces i; behind = others.behind }

  -- what a text is read as, once
  pub one_lexing : (text : List ℕ) (tokens tokens' : List Token) (places places' : List Place) → IsLexed reserved text tokens places → IsLexed reserved text tokens' places' → (tokens ≡ tokens') × (places ≡ places')
  one_lexing text tokens tokens' places places' x y =
      let same = same_cut true x.pieces y.pieces [] [] x.cut.each_stands y.cut.each_stands x.cut.none_refused y.cut.none_refused (inl refl) (inl refl) (sym x.cut.whole ∙ y.cut.whole) in (
        x.tokens_are ∙ ap (filter_map token_of) same.pieces ∙ sym y.tokens_are,
        x.places_are ∙ ap (λ ps. token_places start ps ++ place_behind start text ∷ []) same.pieces ∙ sym y.places_are,
      )

  pub never_both : (text : List ℕ) (tokens : List Token) (places : List Place) (place : Place) → IsLexed reserved text tokens places → IsBadAt reserved text place → ⊥
  never_both text tokens places place x y =
      let same = same_cut true x.pieces y.pieces [] y.rest x.cut.each_stands y.cut.each_stands x.cut.none_refused y.cut.none_refused (inl refl) (inr y.refused) (sym x.cut.whole ∙ y.cut.whole) in
      y.before_the_end (sym same.behind)

  pub one_bad_byte : (text : List ℕ) (place place' : Place) → IsBadAt reserved text place → IsBadAt reserved text place' → place ≡ place'
  one_bad_byte text place place' x y =
      let same = same_cut true x.pieces y.pieces x.rest y.rest x.cut.each_stands y.cut.each_stands x.cut.none_refused y.cut.none_refused (inr x.refused) (inr y.refused) (sym x.cut.whole ∙ y.cut.whole) in
      x.place_is ∙ ap (λ ps. place_behind start (spelled ps [])) same.pieces ∙ sym y.place_is

  -- so what is found, or why nothing is, tells what every other reading would be
  pub only_lexing : (text : List ℕ) (r : Result Lexed Fault) → IfOk r (λ lexed. IsLexed reserved text lexed.tokens.items lexed.places.items) → IfErr r (IsLexFault reserved text) → (tokens : List Token) (places : List Place) → length text ≤ text_limit → IsLexed reserved text tokens places → MatchResult r (λ lexed. (lexed.tokens.items ≡ tokens) × (lexed.places.items ≡ places)) (λ f. f ≡ fault.Memory)
  only_lexing text (Ok lexed) found fails tokens places short other =
      one_lexing text lexed.tokens.items tokens lexed.places.items places found other
  only_lexing text (Err fault.Memory) found fails tokens places short other = refl
  only_lexing text (Err (fault.Syntax line column)) found fails tokens places short other =
      absurd (never_both text tokens places (record { line = line; column = column }) other fails.1)
  only_lexing text (Err (fault.Limit limit.Text)) found fails tokens places short other = absurd (omega arith)
  only_lexing text (Err f) found fails tokens places short other = absurd fails

  pub only_bad_byte : (text : List ℕ) (r : Result Lexed Fault) → IfOk r (λ lexed. IsLexed reserved text lexed.tokens.items lexed.places.items) → IfErr r (IsLexFault reserved text) → (place : Place) → length text ≤ text_limit → IsBadAt reserved text place → IsErrAnd r (λ f. (f ≡ fault_at place) ⊎ (f ≡ fault.Memory))
  only_bad_byte text (Ok lexed) found fails place short bad =
      absurd (never_both text lexed.tokens.items lexed.places.items place found bad)
  only_bad_byte text (Err fault.Memory) found fails place short bad = inr refl
  only_bad_byte text (Err (fault.Syntax line column)) found fails place short bad =
      inl (ap fault_at (one_bad_byte text (record { line = line; column = column }) place fails.1 bad))
  only_bad_byte text (Err (fault.Limit limit.Text)) found fails place short bad = absurd (omega arith)
  only_bad_byte text (Err f) found fails place short bad = absurd fails

length-token_places : (place : Place) (ps : List Piece) → length (token_places place ps) ≡ length (filter_map token_of ps)
length-token_places place [] = refl
length-token_places place (p ∷ ps) =
    grind (arith, length-token_places (place_behind place p.bytes) ps)

-- each token has a place, and so has the end
pub places_of_tokens : (reserved : Reserved) (text : List ℕ) (r : Result Lexed Fault) → IfOk r (λ lexed. IsLexed reserved text lexed.tokens.items lexed.places.items) → IfOk r (λ lexed. length lexed.places.items ≡ length lexed.tokens.items + 1)
places_of_tokens reserved text (Ok lexed) found =
    omega (arith, ap length found.places_are, ap length found.tokens_are, length-token_places start found.pieces, length-append (token_places start found.pieces) (place_behind start text ∷ []))
places_of_tokens reserved text (Err f) found = found
