-- A space stands at the front of any text that begins with it, and so does an operator with a space after it.
use Rattle.ghc_reader.proofs.Words.{ℕ, Bool, true, false, List, [], ◌∷◌, ◌++◌, get_or, refl, ap, arith, IsTrue, codes, spelling, Piece, Stands, Equals, Assign, Plus, Minus, Times, Divide, Modulo, Symbol, false≢true}
use Rattle.ghc_reader.specs.declared.lexer.symbol.Symbol.TheVariants as symbol
use Rattle.ghc_reader.specs.declared.lexer.front.Kind.TheVariants as kind
use Rattle.ghc_reader.proofs.Forms.{run_stands, blank_leaves, modulo_stands, symbol_stands}
use Rattle.ghc_reader.proofs.MarkPieces.{alone, alone_stands}

-- ---- a space

-- the piece that a space is
abbrev pub space : Piece
space = record { kind = kind.Blank; bytes = 32 ∷ [] }

pub space_stands : (signs : Bool) (rest : List ℕ) → Stands signs space rest
space_stands signs rest = run_stands signs space rest (λ _. false) 32 [] refl (refl, refl) (grind arith) (blank_leaves signs 32 refl)

-- ---- operators

-- the piece that a symbol is
abbrev pub symbol_piece : Symbol → Piece
symbol_piece s = record { kind = kind.Symbol s; bytes = spelling s }

-- a symbol that is printed with a space on each side: `=`, `:=` or an operator
abbrev pub is_wide : Symbol → Bool
is_wide (symbol.Mark Equals) = true
is_wide (symbol.Mark Assign) = true
is_wide (symbol.Sum s) = true
is_wide (symbol.Product p) = true
is_wide _ = false

pub wide_stands : (signs : Bool) (s : Symbol) (rest : List ℕ) → IsTrue (is_wide s) → Stands signs (symbol_piece s) (32 ∷ rest)
wide_stands signs (symbol.Mark Equals) rest wide =
    symbol_stands signs (61 ∷ 32 ∷ rest) (61 ∷ []) (32 ∷ rest) (symbol.Mark Equals) (record { no_word = refl; no_blank = refl; no_percent = refl; no_sign = λ h. absurd (omega (arith, h.1.0)) }) refl refl
    (λ other more e. grind (arith, ap (λ l. get_or l 0 0) e, ap (λ l. get_or l 1 0) e))
wide_stands signs (symbol.Mark Assign) rest wide =
    symbol_stands signs (58 ∷ 61 ∷ 32 ∷ rest) (codes ":=") (32 ∷ rest) (symbol.Mark Assign) (record { no_word = refl; no_blank = refl; no_percent = refl; no_sign = λ h. absurd (omega (arith, h.1.0)) }) refl refl
    (λ other more e. grind (arith, ap (λ l. get_or l 0 0) e))
wide_stands signs (symbol.Mark m) rest wide = absurd (false≢true wide)
wide_stands signs (symbol.Comparison c) rest wide = absurd (false≢true wide)
wide_stands signs (symbol.Sum Plus) rest wide = alone_stands signs (symbol.Sum Plus) 43 (32 ∷ rest) refl refl refl refl refl refl
wide_stands signs (symbol.Sum Minus) rest wide =
    symbol_stands signs (45 ∷ 32 ∷ rest) (45 ∷ []) (32 ∷ rest) (symbol.Sum Minus) (record { no_word = refl; no_blank = refl; no_percent = refl; no_sign = λ h. false≢true h.1.1 }) refl refl
    (λ other more e. alone other 45 (32 ∷ rest) more refl e)
wide_stands signs (symbol.Product Times) rest wide = alone_stands signs (symbol.Product Times) 42 (32 ∷ rest) refl refl refl refl refl refl
wide_stands signs (symbol.Product Divide) rest wide = alone_stands signs (symbol.Product Divide) 47 (32 ∷ rest) refl refl refl refl refl refl
wide_stands signs (symbol.Product Modulo) rest wide = modulo_stands signs (codes "mod" ++ 32 ∷ rest) (codes "mod") (32 ∷ rest) refl refl refl refl refl
