-- The pieces that a text is cut into: blanks, comments and tokens, each the longest at its place.
use Rattle.std.specs.Prelude.{◌≡◌, ◌≢◌, ◌⊎◌, ℕ, ◌≤◌, List, [], ◌∷◌, ◌++◌, length, Bool, true, false, IsTrue, ◌==◌, not, codes}
use Rattle.std.specs.Char.{is_ascii_digit, is_ascii_lowercase}
use Rattle.ghc_reader.specs.Bytes.{is_blank, is_word, begins_variable, IsRun}
use Rattle.ghc_reader.specs.Symbols.{spelling}
use Rattle.ghc_reader.specs.declared.token.Mark.TheVariants as mark
use Rattle.ghc_reader.specs.declared.lexer.symbol.Symbol.TheVariants as symbol
use Rattle.ghc_reader.specs.declared.lexer.front.Front.{Front}
use Rattle.ghc_reader.specs.declared.lexer.front.Kind.{Kind}
use Rattle.ghc_reader.specs.declared.lexer.front.Kind.TheVariants.{Blank, Comment, Name, Variable, Integer, Symbol}

-- a piece of a text: its bytes, and whether they are a blank, a comment or which kind of token
pub record Piece : Type 0 where
  pub kind : Kind
  pub bytes : List ℕ

-- one byte, and it passes the test
abbrev pub IsByte : (ℕ → Bool) → List ℕ → Type 0
IsByte test [] = ⊥
IsByte test (b ∷ bs) = IsTrue (test b) × (bs ≡ [])

-- digits with a minus directly before them
abbrev pub IsNegative : List ℕ → Type 0
IsNegative [] = ⊥
IsNegative (b ∷ bs) = (b ≡ 45) × IsRun is_ascii_digit is_ascii_digit bs

-- The bytes have the form of the kind. `signs` says whether a minus directly before a digit is a sign there.
abbrev pub HasForm : Bool → Kind → List ℕ → Type 0
HasForm signs Blank bs = IsByte is_blank bs
HasForm signs Comment bs = IsRun (λ b. b == 37) (λ b. not (b == 10)) bs
HasForm signs Name bs = IsRun is_ascii_lowercase is_word bs × (bs ≢ codes "mod")
HasForm signs Variable bs = IsRun begins_variable is_word bs
HasForm signs Integer bs = IsRun is_ascii_digit is_ascii_digit bs ⊎ (IsTrue signs × IsNegative bs)
HasForm signs (Symbol s) bs = bs ≡ spelling s

-- The piece stands in front of the rest: it has its form, and nothing longer at its place has one.
pub record Stands (signs : Bool) (p : Piece) (rest : List ℕ) : Type 0 where
  pub form : HasForm signs p.kind p.bytes
  pub longest : (q : Piece) (more : List ℕ) → HasForm signs q.kind q.bytes → p.bytes ++ rest ≡ q.bytes ++ more → length q.bytes ≤ length p.bytes

-- No piece is at the front of the text.
abbrev pub HasNoPiece : Bool → List ℕ → Type 0
HasNoPiece signs text = (p : Piece) (rest : List ℕ) → text ≡ p.bytes ++ rest → ¬ (HasForm signs p.kind p.bytes)

-- Whether a minus directly before a digit is a sign after this kind of piece. It is none after a variable, an integer or
-- a closing bracket `)`; a blank or a comment leaves it as it was.
abbrev pub signs_behind : Bool → Kind → Bool
signs_behind signs Blank = signs
signs_behind signs Comment = signs
signs_behind signs Variable = false
signs_behind signs Integer = false
signs_behind signs (Symbol (symbol.Mark mark.Close)) = false
signs_behind signs Name = true
signs_behind signs (Symbol s) = true

-- The piece and the rest are what a text is split into.
abbrev pub IsFront : Bool → List ℕ → Front → Type 0
IsFront signs text front = (text ≡ front.bytes.now ++ front.rest.now) × Stands signs (record { kind = front.kind; bytes = front.bytes.now }) front.rest.now

-- the bytes of the pieces, one after the other, and then more
abbrev pub spelled : List Piece → List ℕ → List ℕ
spelled [] more = more
spelled (p ∷ ps) more = p.bytes ++ spelled ps more

-- each of the pieces stands where it is, in front of those after it and of the rest
abbrev pub Cuts : Bool → List Piece → List ℕ → Type 0
Cuts signs [] rest = Unit {0}
Cuts signs (p ∷ ps) rest = Stands signs p (spelled ps rest) × Cuts (signs_behind signs p.kind) ps rest

-- whether a minus directly before a digit is a sign after these pieces
abbrev pub signs_after : Bool → List Piece → Bool
signs_after signs [] = signs
signs_after signs (p ∷ ps) = signs_after (signs_behind signs p.kind) ps
