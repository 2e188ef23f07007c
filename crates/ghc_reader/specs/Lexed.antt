-- What a text is read as: its tokens with their places, or the first byte that is refused.
use Rattle.std.specs.Prelude.{◌≡◌, ◌≢◌, ◌⊎◌, ℕ, ◌<◌, ◌≤◌, List, [], ◌∷◌, ◌++◌, length, true, Option, Some, None, All, ⊤, FitsSigned}
use Rattle.std.specs.Int.{w64}
use Rattle.std.specs.Char.{is_ascii_digit}
use Rattle.std.specs.List.{filter_map}
use Rattle.std.specs.Str.Parse.{digits_value, signed_digits_value}
use Rattle.ghc_reader.specs.Bytes.{IsRun, Lacks}
use Rattle.ghc_reader.specs.Symbols.{token_of_symbol}
use Rattle.ghc_reader.specs.Pieces.{Piece, Stands, spelled, Cuts, signs_after}
use Rattle.ghc_reader.specs.Places.{start, place_behind, fault_at}
use Rattle.ghc_term.specs.Limit.{text_limit}
use Rattle.ghc_term.specs.declared.fault.Fault.{Fault}
use Rattle.ghc_term.specs.declared.fault.Fault.TheVariants as fault
use Rattle.ghc_term.specs.declared.limit.Limit.TheVariants as limit
use Rattle.ghc_reader.specs.declared.token.Token.{Token}
use Rattle.ghc_reader.specs.declared.token.Token.TheVariants as token
use Rattle.ghc_reader.specs.declared.place.Place.{Place}
use Rattle.ghc_reader.specs.declared.lexer.front.Kind.{Kind}
use Rattle.ghc_reader.specs.declared.lexer.front.Kind.TheVariants.{Blank, Comment, Name, Variable, Integer, Symbol}
use Rattle.ghc_reader.specs.declared.lexer.front.Front.{Front}
use Rattle.ghc_reader.specs.declared.lexer.value.Reserved.{Reserved}
use Rattle.ghc_reader.specs.declared.lexer.value.Reserved.TheVariants.{Refused, Allowed}

-- ---- one piece

-- the piece that the reader found
abbrev pub piece_of : Front → Piece
piece_of front = record { kind = front.kind; bytes = front.bytes.now }

-- the token of bytes of a kind; a blank and a comment are none
abbrev pub token_of_bytes : Kind → List ℕ → Option Token
token_of_bytes Blank bs = None
token_of_bytes Comment bs = None
token_of_bytes Name bs = Some (token.Name bs)
token_of_bytes Variable bs = Some (token.Variable bs)
token_of_bytes Integer bs = Some (token.Integer (signed_digits_value 10 bs))
token_of_bytes (Symbol s) bs = Some (token_of_symbol s)

-- the token that a piece is; a blank and a comment are none
abbrev pub token_of : Piece → Option Token
token_of p = token_of_bytes p.kind p.bytes

-- one digit or more
abbrev pub AreDigits : List ℕ → Type 0
AreDigits bs = IsRun is_ascii_digit is_ascii_digit bs

-- the text is `_`, these digits, and then the rest, which no digit begins
abbrev pub BeginsNumber : List ℕ → List ℕ → List ℕ → Type 0
BeginsNumber text digits rest = AreDigits digits × (text ≡ 95 ∷ (digits ++ rest)) × Lacks is_ascii_digit rest

-- the bytes are `_`, the first digits, `_`, the second digits
abbrev pub IsReservedBy : List ℕ → List ℕ → List ℕ → Type 0
IsReservedBy bs first second = AreDigits first × AreDigits second × (bs ≡ 95 ∷ (first ++ 95 ∷ second))

-- `_`, digits, `_`, digits
abbrev pub IsReserved : List ℕ → Type 0
IsReserved bs = (first second : List ℕ) × IsReservedBy bs first second

-- the bytes are `_n_m`, by the values of the digits
abbrev pub IsReservedAs : List ℕ → ℕ → ℕ → Type 0
IsReservedAs bs n m =
    (first second : List ℕ) × IsReservedBy bs first second × (n ≡ digits_value 10 first) × (m ≡ digits_value 10 second)

-- the greatest number: one that is written has 32 bits
abbrev pub greatest_number : ℕ
greatest_number = 4294967295

-- the bytes are `_n_m` with a number that no variable has
abbrev pub IsTooGreat : List ℕ → Type 0
IsTooGreat bs = (n m : ℕ) × IsReservedAs bs n m × ((greatest_number < n) ⊎ (greatest_number < m))

-- the bytes are `_n_m`, and a variable can have these numbers
abbrev pub IsNumberedAs : List ℕ → ℕ → ℕ → Type 0
IsNumberedAs bs n m = IsReservedAs bs n m × (n ≤ greatest_number) × (m ≤ greatest_number)

-- The token is refused: an integer that doesn't fit 64 bits; a reserved variable where a text may not hold one, and else one with a number that is too great.
abbrev pub IsRefusedToken : Reserved → Option Token → Type 0
IsRefusedToken reserved (Some (token.Integer value)) = ¬ (FitsSigned w64 value)
IsRefusedToken Refused (Some (token.Variable bs)) = IsReserved bs
IsRefusedToken Allowed (Some (token.Variable bs)) = IsTooGreat bs
IsRefusedToken reserved t = ⊥

-- The piece is a token, and that token is refused.
abbrev pub IsRefused : Reserved → Piece → Type 0
IsRefused reserved p = IsRefusedToken reserved (token_of p)

-- ---- a text

-- the text is cut into these pieces and a rest, and none of the pieces is refused
pub record IsCutInto (reserved : Reserved) (text : List ℕ) (pieces : List Piece) (rest : List ℕ) : Type 0 where
  pub whole : text ≡ spelled pieces rest
  pub each_stands : Cuts true pieces rest
  pub none_refused : All (λ p. ¬ (IsRefused reserved p)) pieces

-- a place for each piece that is a token
abbrev pub place_of_token : Option Token → Place → List Place → List Place
place_of_token None place places = places
place_of_token (Some t) place places = place ∷ places

-- the places of those pieces that are tokens, where the first piece stands at this place
abbrev pub token_places : Place → List Piece → List Place
token_places place [] = []
token_places place (p ∷ ps) = place_of_token (token_of p) place (token_places (place_behind place p.bytes) ps)

-- The text is cut into pieces, none of them refused. These are their tokens, with the place of each and, after the
-- last, that of the end.
pub record IsLexed (reserved : Reserved) (text : List ℕ) (tokens : List Token) (places : List Place) : Type 0 where
  pub pieces : List Piece
  pub cut : IsCutInto reserved text pieces []
  pub tokens_are : tokens ≡ filter_map token_of pieces
  pub places_are : places ≡ token_places start pieces ++ place_behind start text ∷ []

-- The place is that of the first byte at which no token starts, or of the first byte of the first token that is refused:
-- the text in front of it is cut into pieces that aren't, and any piece that stands there is refused.
pub record IsBadAt (reserved : Reserved) (text : List ℕ) (place : Place) : Type 0 where
  pub pieces : List Piece
  pub rest : List ℕ
  pub cut : IsCutInto reserved text pieces rest
  pub before_the_end : rest ≢ []
  pub refused : (p : Piece) (more : List ℕ) → rest ≡ p.bytes ++ more → Stands (signs_after true pieces) p more → IsRefused reserved p
  pub place_is : place ≡ place_behind start (spelled pieces [])

-- why a text of any length has no tokens: it has a bad byte, or memory was refused
abbrev pub IsCutFault : Reserved → List ℕ → Fault → Type 0
IsCutFault reserved text f = (f ≡ fault.Memory) ⊎ ((place : Place) × IsBadAt reserved text place × (f ≡ fault_at place))

-- why a text has no tokens: it is too long, has a bad byte, or memory was refused
abbrev pub IsLexFault : Reserved → List ℕ → Fault → Type 0
IsLexFault reserved text fault.Memory = ⊤
IsLexFault reserved text (fault.Syntax line column) = (length text ≤ text_limit) × IsBadAt reserved text (record { line = line; column = column })
IsLexFault reserved text (fault.Limit limit.Text) = text_limit < length text
IsLexFault reserved text f = ⊥

-- ---- laws

-- every text has tokens or a first bad byte
abbrev pub EveryTextIsRead : Type 0
EveryTextIsRead =
    (reserved : Reserved) (text : List ℕ)
    → ((tokens : List Token) × (places : List Place) × IsLexed reserved text tokens places) ⊎ ((place : Place) × IsBadAt reserved text place)

-- no text has two lists of tokens, or both tokens and a first bad byte, or two first bad bytes
pub record IsReadOnce (reserved : Reserved) (text : List ℕ) : Type 0 where
  pub one_lexing : (tokens tokens' : List Token) (places places' : List Place) → IsLexed reserved text tokens places → IsLexed reserved text tokens' places' → (tokens ≡ tokens') × (places ≡ places')
  pub never_both : (tokens : List Token) (places : List Place) (place : Place) → IsLexed reserved text tokens places → IsBadAt reserved text place → ⊥
  pub one_bad_byte : (place place' : Place) → IsBadAt reserved text place → IsBadAt reserved text place' → place ≡ place'

-- Every text has at most one reading: its tokens with their places, or its first bad byte.
abbrev pub NoTextIsReadTwice : Type 0
NoTextIsReadTwice = (reserved : Reserved) (text : List ℕ) → IsReadOnce reserved text
