-- What the loop over the pieces of a text keeps.
use Rattle.ghc_reader.proofs.Words.{◌≡◌, ◌≢◌, ◌⊎◌, ℕ, ◌+◌, ◌^◌, ◌<◌, ◌≤◌, Bool, true, List, [], ◌∷◌, ◌++◌, length, Option, Some, None, refl, sym, ap, subst, ◌∙◌, arith, append_assoc, length-append, Result, IfErr, append-nil, All-push, filter_map-append, filter_map, option_to_list, Piece, HasForm, HasNoPiece, Stands, IsFront, spelled, Cuts, signs_behind, signs_after, start, place_behind, fault_at, piece_of, token_of, IsRefused, IsCutInto, place_of_token, token_places, IsBadAt, IsLexFault, text_limit, IsCutFault, greatest_number, Token, Place, Front, Reserved}
use Rattle.ghc_term.specs.declared.fault.Fault.{Fault}
use Rattle.ghc_term.specs.declared.fault.Fault.TheVariants as fault
use Rattle.ghc_reader.proofs.OnePiece.{one_piece}
use Rattle.ghc_reader.proofs.PlaceLemmas.{behind_within, place_behind-append}

-- ---- one piece more at the end

pub spelled-front : (ps : List Piece) (rest : List ℕ) → spelled ps rest ≡ spelled ps [] ++ rest
spelled-front [] rest = refl
spelled-front (p ∷ ps) rest = ap (λ l. p.bytes ++ l) (spelled-front ps rest) ∙ sym (append_assoc p.bytes (spelled ps []) rest)

pub spelled-push : (ps : List Piece) (p : Piece) (rest : List ℕ) → spelled (ps ++ p ∷ []) rest ≡ spelled ps (p.bytes ++ rest)
spelled-push [] p rest = refl
spelled-push (q ∷ ps) p rest = ap (λ l. q.bytes ++ l) (spelled-push ps p rest)

pub Cuts-push : (signs : Bool) (ps : List Piece) (p : Piece) (rest : List ℕ) → Cuts signs ps (p.bytes ++ rest) → Stands (signs_after signs ps) p rest → Cuts signs (ps ++ p ∷ []) rest
Cuts-push signs [] p rest cuts stands = (stands, tt)
Cuts-push signs (q ∷ ps) p rest cuts stands = (
  subst (Stands signs q) (sym (spelled-push ps p rest)) cuts.0,
  Cuts-push (signs_behind signs q.kind) ps p rest cuts.1 stands,
)

pub signs_after-push : (signs : Bool) (ps : List Piece) (p : Piece) → signs_after signs (ps ++ p ∷ []) ≡ signs_behind (signs_after signs ps) p.kind
signs_after-push signs [] p = refl
signs_after-push signs (q ∷ ps) p = signs_after-push (signs_behind signs q.kind) ps p

place_of_token-append : (t : Option Token) (place : Place) (a b : List Place) → place_of_token t place (a ++ b) ≡ place_of_token t place a ++ b
place_of_token-append t place a b = grind arith

pub token_places-push : (place : Place) (ps : List Piece) (p : Piece) → token_places place (ps ++ p ∷ []) ≡ token_places place ps ++ place_of_token (token_of p) (place_behind place (spelled ps [])) []
token_places-push place [] p = refl
token_places-push place (q ∷ ps) p =
    let behind = place_behind place q.bytes in
    let there : place_behind behind (spelled ps []) ≡ place_behind place (q.bytes ++ spelled ps []) = sym (place_behind-append place q.bytes (spelled ps [])) in
    ap (place_of_token (token_of q) place) (token_places-push behind ps p)
    ∙ place_of_token-append (token_of q) place (token_places behind ps) (place_of_token (token_of p) (place_behind behind (spelled ps [])) [])
    ∙ ap (λ x. place_of_token (token_of q) place (token_places behind ps) ++ place_of_token (token_of p) x []) there

tokens-push : (ps : List Piece) (p : Piece) → filter_map token_of (ps ++ p ∷ []) ≡ filter_map token_of ps ++ option_to_list (token_of p)
tokens-push ps p = filter_map-append token_of ps (p ∷ []) ∙ ap (λ l. filter_map token_of ps ++ l) (alone (token_of p))
  where
    alone : (t : Option Token) → Rattle.std.specs.List.cons_option t [] ≡ option_to_list t
    alone None = refl
    alone (Some t) = refl

-- ---- the state of the loop

pub record LexedSoFar (reserved : Reserved) (text : List ℕ) (tokens : List Token) (places : List Place) (place : Place) (signs : Bool) (rest : List ℕ) : Type 0 where
  pub pieces : List Piece
  pub cut : IsCutInto reserved text pieces rest
  pub tokens_are : tokens ≡ filter_map token_of pieces
  pub places_are : places ≡ token_places start pieces
  pub place_is : place ≡ place_behind start (spelled pieces [])
  pub signs_are : signs ≡ signs_after true pieces

module _ (reserved : Reserved) (text : List ℕ) (tokens : List Token) (places : List Place) (place : Place) (signs : Bool) (rest : List ℕ) (so_far : LexedSoFar reserved text tokens places place signs rest) where
  pub more_lexed : (front : Front) (tokens' : List Token) (places' : List Place) → IsFront signs rest front → ¬ (IsRefused reserved (piece_of front)) → tokens' ≡ tokens ++ option_to_list (token_of (piece_of front)) → places' ≡ places ++ place_of_token (token_of (piece_of front)) place [] → LexedSoFar reserved text tokens' places' (place_behind place front.bytes.now) (signs_behind signs front.kind) front.rest.now
  more_lexed front tokens' places' is_front fine tokens_more places_more =
      let ps = so_far.pieces in
      let p = piece_of front in
      let behind = front.rest.now in
      record {
        pieces = ps ++ p ∷ [];
        cut = record {
          whole = so_far.cut.whole ∙ ap (spelled ps) is_front.0 ∙ sym (spelled-push ps p behind);
          each_stands = Cuts-push true ps p behind (subst (Cuts true ps) is_front.0 so_far.cut.each_stands) (subst (λ s. Stands s p behind) so_far.signs_are is_front.1);
          none_refused = All-push (λ q. ¬ (IsRefused reserved q)) ps p so_far.cut.none_refused fine;
        };
        tokens_are = tokens_more ∙ ap (λ l. l ++ option_to_list (token_of p)) so_far.tokens_are ∙ sym (tokens-push ps p);
        places_are = places_more ∙ (λ i. so_far.places_are i ++ place_of_token (token_of p) (so_far.place_is i) []) ∙ sym (token_places-push start ps p);
        place_is = ap (λ x. place_behind x front.bytes.now) so_far.place_is ∙ sym (place_behind-append start (spelled ps []) front.bytes.now) ∙ ap (place_behind start) (sym (spelled-front ps front.bytes.now) ∙ ap (spelled ps) (sym (append-nil front.bytes.now)) ∙ sym (spelled-push ps p []));
        signs_are = ap (λ s. signs_behind s front.kind) so_far.signs_are ∙ sym (signs_after-push true ps p);
      }

  -- no piece is at the front
  pub none_stands : rest ≢ [] → HasNoPiece signs rest → IsBadAt reserved text place
  none_stands before none = record {
    pieces = so_far.pieces;
    rest = rest;
    cut = so_far.cut;
    before_the_end = before;
    refused = λ p more split stands. absurd (none p more split (subst (λ s. HasForm s p.kind p.bytes) (sym so_far.signs_are) stands.form));
    place_is = so_far.place_is;
  }

  -- the piece at the front is refused
  pub one_refused : rest ≢ [] → (front : Front) → IsFront signs rest front → IsRefused reserved (piece_of front) → IsBadAt reserved text place
  one_refused before front is_front bad = record {
    pieces = so_far.pieces;
    rest = rest;
    cut = so_far.cut;
    before_the_end = before;
    refused = λ p more split stands. subst (IsRefused reserved) (one_piece signs (piece_of front) p front.rest.now more is_front.1 (subst (λ s. Stands s p more) (sym so_far.signs_are) stands) (sym is_front.0 ∙ split)) bad;
    place_is = so_far.place_is;
  }

  -- lines and columns fit
  pub line_fits : length text + 1 < greatest_number → place.line + 1 < 2 ^ 32
  line_fits short =
      let within = behind_within start (spelled so_far.pieces []) (omega arith) in
      omega (arith, within.line, ap Place.line so_far.place_is, length-append (spelled so_far.pieces []) rest, ap length (spelled-front so_far.pieces rest), ap length so_far.cut.whole)

  pub column_fits : length text + 1 < greatest_number → (bytes behind : List ℕ) → rest ≡ bytes ++ behind → place.column + length bytes < 2 ^ 32
  column_fits short bytes behind split =
      let within = behind_within start (spelled so_far.pieces []) (omega arith) in
      omega (arith, within.column, ap Place.column so_far.place_is, length-append (spelled so_far.pieces []) rest, ap length (spelled-front so_far.pieces rest), ap length so_far.cut.whole, ap length split, length-append bytes behind)

-- a token that is refused is the fault of the text
pub refused_fault : (reserved : Reserved) (text : List ℕ) (place : Place) (Bad : Type 0) (f : Fault) → (f ≡ fault.Memory) ⊎ ((f ≡ fault_at place) × Bad) → (Bad → IsBadAt reserved text place) → IsCutFault reserved text f
refused_fault reserved text place Bad f h is_bad = grind arith

-- of a text that is not too long
pub short_faults : {T : Type 0} (reserved : Reserved) (text : List ℕ) (r : Result T Fault) → length text ≤ text_limit → IfErr r (IsCutFault reserved text) → IfErr r (IsLexFault reserved text)
short_faults reserved text r short h = grind arith
