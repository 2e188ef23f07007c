-- Each mark of an input term stands at the front of any text that begins with it.
use Rattle.ghc_reader.proofs.Words.{◌≡◌, ℕ, ◌≤◌, ◌==◌, ◌||◌, Bool, true, false, List, [], ◌∷◌, ◌++◌, length, get_or, refl, ap, ◌∙◌, arith, IsTrue, nat_tests, is_blank, is_word, spelling, Stands, Mark, Open, Close, OpenList, CloseList, Comma, Bar, Symbol, false≢true}
use Rattle.ghc_reader.specs.declared.lexer.symbol.Symbol.TheVariants as symbol
use Rattle.ghc_reader.specs.declared.lexer.front.Kind.TheVariants as kind
use Rattle.ghc_reader.proofs.Forms.{symbol_stands}

-- a mark that can stand in an input term: a bracket, a comma or a bar
abbrev pub is_plain : Mark → Bool
is_plain Open = true
is_plain Close = true
is_plain OpenList = true
is_plain CloseList = true
is_plain Comma = true
is_plain Bar = true
is_plain _ = false

-- a longer symbol begins with the byte
abbrev begins_long : ℕ → Bool
begins_long b = b == 58 || b == 61 || b == 62 || b == 109

pub alone : (other : Symbol) (b : ℕ) (rest more : List ℕ) → begins_long b ≡ false → b ∷ rest ≡ spelling other ++ more → length (spelling other) ≤ 1
alone other b rest more short e = let first = ap (λ l. get_or l 0 0) e in grind (arith, nat_tests, first)

-- a symbol of one byte that begins nothing else
pub alone_stands : (signs : Bool) (s : Symbol) (b : ℕ) (rest : List ℕ) → b ∷ [] ≡ spelling s → begins_long b ≡ false
    → is_word b ≡ false → is_blank b ≡ false → (b == 37) ≡ false → (b == 45) ≡ false
    → Stands signs (record { kind = kind.Symbol s; bytes = b ∷ [] }) rest
alone_stands signs s b rest spelled short word blank percent minus =
    symbol_stands signs (b ∷ rest) (b ∷ []) rest s (record { no_word = word; no_blank = blank; no_percent = percent; no_sign = λ h. grind (arith, nat_tests, h.1.0) }) refl spelled
    (λ other more e. omega (arith, ap length spelled, alone other b rest more short (ap (λ l. l ++ rest) spelled ∙ e)))

pub mark_stands : (signs : Bool) (m : Mark) (rest : List ℕ) → IsTrue (is_plain m) → Stands signs (record { kind = kind.Symbol (symbol.Mark m); bytes = spelling (symbol.Mark m) }) rest
mark_stands signs Open rest plain = alone_stands signs (symbol.Mark Open) 40 rest refl refl refl refl refl refl
mark_stands signs Close rest plain = alone_stands signs (symbol.Mark Close) 41 rest refl refl refl refl refl refl
mark_stands signs OpenList rest plain = alone_stands signs (symbol.Mark OpenList) 91 rest refl refl refl refl refl refl
mark_stands signs CloseList rest plain = alone_stands signs (symbol.Mark CloseList) 93 rest refl refl refl refl refl refl
mark_stands signs Comma rest plain = alone_stands signs (symbol.Mark Comma) 44 rest refl refl refl refl refl refl
mark_stands signs Bar rest plain = alone_stands signs (symbol.Mark Bar) 124 rest refl refl refl refl refl refl
mark_stands signs m rest plain = absurd (false≢true plain)
