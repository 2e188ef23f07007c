-- Every text is cut up to its end, or up to a first bad byte.
use Rattle.ghc_reader.proofs.Words.{◌≡◌, ◌≢◌, ◌⊎◌, ℕ, zero, suc, ◌<◌, ◌≤◌, Bool, true, List, [], ◌∷◌, ◌++◌, length, take, drop, All, refl, sym, ap, subst, ◌∙◌, inl, inr, arith, codes, length-append, cases_lt, take-append-drop, All-nil, All-cons, take-append_seam, is_ascii_digit, is_ascii_lowercase, list_all, filter_map, is_blank, is_word, begins_variable, IsRun, spelling, Piece, IsByte, IsNegative, HasForm, Stands, HasNoPiece, spelled, Cuts, signs_behind, signs_after, start, place_behind, IsRefused, token_of, token_places, IsCutInto, EveryTextIsRead, NoTextIsReadTwice, Kind, Reserved}
use Rattle.std.proofs.Common.{length-take-le}
use Rattle.ghc_reader.specs.declared.lexer.front.Kind.TheVariants as kind
use Rattle.ghc_reader.proofs.Forms.{no_form_is_empty}
use Rattle.ghc_reader.proofs.OnePiece.{kind_of, kind_of_form, one_piece}
use Rattle.ghc_reader.proofs.OneLexing.{one_lexing, never_both, one_bad_byte}
use Rattle.ghc_reader.proofs.SoOrNot.{IsSoOrNot, true_or_not, both_or_not, one_or_not, not_or_so, same_or_not}
use Rattle.ghc_reader.proofs.RefusedOrNot.{refused_or_not}

-- ---- forms

run_or_not : (first each : ℕ → Bool) (bs : List ℕ) → IsSoOrNot (IsRun first each bs)
run_or_not first each [] = inr (λ run. run)
run_or_not first each (b ∷ bs) = both_or_not _ _ (true_or_not (first b)) (true_or_not (list_all each bs))

byte_or_not : (test : ℕ → Bool) (bs : List ℕ) → IsSoOrNot (IsByte test bs)
byte_or_not test [] = inr (λ byte. byte)
byte_or_not test (b ∷ bs) = both_or_not _ _ (true_or_not (test b)) (same_or_not bs [])

negative_or_not : (bs : List ℕ) → IsSoOrNot (IsNegative bs)
negative_or_not [] = inr (λ negative. negative)
negative_or_not (b ∷ bs) = both_or_not _ _ (elim (same_or_not (b ∷ []) (45 ∷ [])) [ inl same ↦ inl (cc) | inr other ↦ inr (λ e. other (cc)) ]) (run_or_not is_ascii_digit is_ascii_digit bs)

form_or_not : (signs : Bool) (k : Kind) (bs : List ℕ) → IsSoOrNot (HasForm signs k bs)
form_or_not signs kind.Blank bs = byte_or_not is_blank bs
form_or_not signs kind.Comment bs = run_or_not _ _ bs
form_or_not signs kind.Name bs = both_or_not _ _ (run_or_not is_ascii_lowercase is_word bs) (not_or_so _ (same_or_not bs (codes "mod")))
form_or_not signs kind.Variable bs = run_or_not begins_variable is_word bs
form_or_not signs kind.Integer bs = one_or_not _ _ (run_or_not is_ascii_digit is_ascii_digit bs) (both_or_not _ _ (true_or_not signs) (negative_or_not bs))
form_or_not signs (kind.Symbol s) bs = same_or_not bs (spelling s)

abbrev IsFormed : Bool → List ℕ → Type 0
IsFormed signs bs = (k : Kind) × HasForm signs k bs

formed_or_not : (signs : Bool) (bs : List ℕ) → IsSoOrNot (IsFormed signs bs)
formed_or_not signs bs = elim (form_or_not signs (kind_of bs) bs) [
  | inl form ↦ inl (kind_of bs, form)
  | inr none ↦ inr (λ formed. none (subst (λ k. HasForm signs k bs) (sym (kind_of_form signs formed.0 bs formed.1)) formed.1))
]

-- ---- the longest beginning of a text that has a form

record LongestBeginning (signs : Bool) (text : List ℕ) (bound : ℕ) : Type 0 where
  bytes : ℕ
  within : bytes ≤ bound
  formed : IsFormed signs (take bytes text)
  longest : (m : ℕ) → m ≤ bound → IsFormed signs (take m text) → m ≤ bytes

longest_or_none : (signs : Bool) (text : List ℕ) (bound : ℕ) → LongestBeginning signs text bound ⊎ ((m : ℕ) → m ≤ bound → IsFormed signs (take m text) → ⊥)
longest_or_none signs text zero = elim (formed_or_not signs (take 0 text)) [
  | inl formed ↦ inl (record { bytes = 0; within = omega arith; formed = formed; longest = λ m h f. h })
  | inr none ↦ inr (λ m h f. let at_zero : m ≡ 0 = omega arith in none (subst (λ n. IsFormed signs (take n text)) at_zero f))
]
longest_or_none signs text (suc bound) = elim (formed_or_not signs (take (suc bound) text)) [
  | inl formed ↦ inl (record { bytes = suc bound; within = omega arith; formed = formed; longest = λ m h f. h })
  | inr none ↦ elim (longest_or_none signs text bound) [
    | inl found ↦ inl (record { bytes = found.bytes; within = omega (arith, found.within); formed = found.formed; longest = λ m h f. found.longest m (below m none h f) f })
    | inr none_below ↦ inr (λ m h f. none_below m (below m none h f) f)
  ]
]
  where
    below : (m : ℕ) → ¬ (IsFormed signs (take (suc bound) text)) → m ≤ suc bound → IsFormed signs (take m text) → m ≤ bound
    below m none h f = elim (cases_lt m (suc bound)) [
      | inl less ↦ omega arith
      | inr more ↦ let at_bound : m ≡ suc bound = omega arith in absurd (none (subst (λ n. IsFormed signs (take n text)) at_bound f))
    ]

-- the beginning of a text that a front is
take_front : (text front rest : List ℕ) → text ≡ front ++ rest → take (length front) text ≡ front
take_front text front rest e = ap (take (length front)) e ∙ take-append_seam front rest

length_front : (text front rest : List ℕ) → text ≡ front ++ rest → length front ≤ length text
length_front text front rest e = omega (arith, ap length e, length-append front rest)

record FrontPiece (signs : Bool) (text : List ℕ) : Type 0 where
  piece : Piece
  rest : List ℕ
  split : text ≡ piece.bytes ++ rest
  stands : Stands signs piece rest

piece_or_none : (signs : Bool) (text : List ℕ) → FrontPiece signs text ⊎ HasNoPiece signs text
piece_or_none signs text = elim (longest_or_none signs text (length text)) [
  | inl found ↦ inl (record {
    piece = record { kind = found.formed.0; bytes = take found.bytes text };
    rest = drop found.bytes text;
    split = sym (take-append-drop found.bytes text);
    stands = record {
      form = found.formed.1;
      longest = λ q more form e.
          let split : text ≡ q.bytes ++ more = sym (take-append-drop found.bytes text) ∙ e in
          let shorter = found.longest (length q.bytes) (length_front text q.bytes more split) (q.kind, subst (HasForm signs q.kind) (sym (take_front text q.bytes more split)) form) in
          omega (arith, shorter, length-take-le found.bytes text found.within);
    };
  })
  | inr none ↦ inr (λ p rest split form. none (length p.bytes) (length_front text p.bytes rest split) (p.kind, subst (HasForm signs p.kind) (sym (take_front text p.bytes rest split)) form))
]

-- ---- the cut

record CutText (r : Reserved) (signs : Bool) (text : List ℕ) : Type 0 where
  pieces : List Piece
  rest : List ℕ
  whole : text ≡ spelled pieces rest
  each_stands : Cuts signs pieces rest
  none_refused : All (λ p. ¬ (IsRefused r p)) pieces
  ends : (rest ≡ []) ⊎ ((rest ≢ []) × ((p : Piece) (more : List ℕ) → rest ≡ p.bytes ++ more → Stands (signs_after signs pieces) p more → IsRefused r p))

nothing_cut : (r : Reserved) (signs : Bool) (text : List ℕ)
    → (text ≡ []) ⊎ ((text ≢ []) × ((p : Piece) (more : List ℕ) → text ≡ p.bytes ++ more → Stands signs p more → IsRefused r p))
    → CutText r signs text
nothing_cut r signs text ends =
    record { pieces = []; rest = text; whole = refl; each_stands = tt; none_refused = All-nil (λ p. ¬ (IsRefused r p)); ends = ends }

cut_text : (n : ℕ) (r : Reserved) (signs : Bool) (text : List ℕ) → length text ≤ n → CutText r signs text
cut_text n r signs [] short = nothing_cut r signs [] (inl refl)
cut_text zero r signs (b ∷ bs) short = absurd (omega arith)
cut_text (suc n) r signs (b ∷ bs) short = elim (piece_or_none signs (b ∷ bs)) [
  | inr none ↦ nothing_cut r signs (b ∷ bs) (inr (λ e. cc, λ p more e stands. absurd (none p more e stands.form)))
  | inl found ↦ elim (refused_or_not r (token_of found.piece)) [
    | inl bad ↦ nothing_cut r signs (b ∷ bs)
        (inr (λ e. cc, λ p more e stands. subst (IsRefused r) (one_piece signs found.piece p found.rest more found.stands stands (sym found.split ∙ e)) bad))
    | inr fine ↦
        let has : 0 < length found.piece.bytes = grind (arith, no_form_is_empty, found.stands.form) in
        let shorter : length found.rest ≤ n = omega (arith, has, ap length found.split, length-append found.piece.bytes found.rest) in
        let others = cut_text n r (signs_behind signs found.piece.kind) found.rest shorter in
        record {
          pieces = found.piece ∷ others.pieces;
          rest = others.rest;
          whole = found.split ∙ ap (λ l. found.piece.bytes ++ l) others.whole;
          each_stands = (subst (Stands signs found.piece) others.whole found.stands, others.each_stands);
          none_refused = All-cons (λ p. ¬ (IsRefused r p)) found.piece others.pieces fine others.none_refused;
          ends = others.ends;
        }
  ]
]

pub every_text_is_read : EveryTextIsRead
every_text_is_read r text =
    let found = cut_text (length text) r true text (omega arith) in
    elim found.ends [
      | inl ended ↦ inl (
        filter_map token_of found.pieces,
        token_places start found.pieces ++ place_behind start text ∷ [],
        record {
          pieces = found.pieces;
          cut = subst (IsCutInto r text found.pieces) ended (record { whole = found.whole; each_stands = found.each_stands; none_refused = found.none_refused });
          tokens_are = refl;
          places_are = refl;
        },
      )
      | inr (before, bad) ↦ inr (
        place_behind start (spelled found.pieces []),
        record {
          pieces = found.pieces;
          rest = found.rest;
          cut = record { whole = found.whole; each_stands = found.each_stands; none_refused = found.none_refused };
          before_the_end = before;
          refused = bad;
          place_is = refl;
        },
      )
    ]

pub no_text_is_read_twice : NoTextIsReadTwice
no_text_is_read_twice r text = record {
  one_lexing = one_lexing r text;
  never_both = never_both r text;
  one_bad_byte = one_bad_byte r text;
}
