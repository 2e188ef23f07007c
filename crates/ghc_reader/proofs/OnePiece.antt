-- At most one piece stands at a place.
use Rattle.ghc_reader.proofs.Words.{◌≡◌, ℕ, Bool, false, List, [], ◌∷◌, ◌++◌, length, get_or, refl, sym, ap, ◌∙◌, inl, inr, arith, ◌==◌, codes, cond, bytes_eq, nat_tests, bytes_eq-Decides, false_from_ne_true, is_ascii_digit, is_ascii_lowercase, is_blank, begins_variable, Piece, HasForm, Stands, Open, Close, OpenList, CloseList, Comma, Bar, Equals, Assign, Define, Stop, Less, AtMost, Greater, AtLeast, Equal, NotEqual, Plus, Minus, Times, Divide, Modulo, Symbol, Kind}
use Rattle.ghc_reader.proofs.Forms.{no_form_is_empty}
use Rattle.ghc_reader.specs.declared.lexer.symbol.Symbol.TheVariants as symbol
use Rattle.ghc_reader.specs.declared.lexer.front.Kind.TheVariants as kind

-- ---- the kind of the bytes of a piece

-- the symbol that the bytes spell; where they spell none, any
abbrev pub symbol_of : List ℕ → Symbol
symbol_of bs =
    cond (bytes_eq bs (codes "(")) (symbol.Mark Open)
    (cond (bytes_eq bs (codes ")")) (symbol.Mark Close)
    (cond (bytes_eq bs (codes "[")) (symbol.Mark OpenList)
    (cond (bytes_eq bs (codes "]")) (symbol.Mark CloseList)
    (cond (bytes_eq bs (codes ",")) (symbol.Mark Comma)
    (cond (bytes_eq bs (codes "|")) (symbol.Mark Bar)
    (cond (bytes_eq bs (codes "=")) (symbol.Mark Equals)
    (cond (bytes_eq bs (codes ":=")) (symbol.Mark Assign)
    (cond (bytes_eq bs (codes ":-")) (symbol.Mark Define)
    (cond (bytes_eq bs (codes ".")) (symbol.Mark Stop)
    (cond (bytes_eq bs (codes "<")) (symbol.Comparison Less)
    (cond (bytes_eq bs (codes "=<")) (symbol.Comparison AtMost)
    (cond (bytes_eq bs (codes ">")) (symbol.Comparison Greater)
    (cond (bytes_eq bs (codes ">=")) (symbol.Comparison AtLeast)
    (cond (bytes_eq bs (codes "=:=")) (symbol.Comparison Equal)
    (cond (bytes_eq bs (61 ∷ 92 ∷ 61 ∷ [])) (symbol.Comparison NotEqual)
    (cond (bytes_eq bs (codes "+")) (symbol.Sum Plus)
    (cond (bytes_eq bs (codes "-")) (symbol.Sum Minus)
    (cond (bytes_eq bs (codes "*")) (symbol.Product Times)
    (cond (bytes_eq bs (codes "/")) (symbol.Product Divide) (symbol.Product Modulo))))))))))))))))))))

-- the kind of a piece with these bytes, if there is one
abbrev pub kind_of : List ℕ → Kind
kind_of [] = kind.Blank
kind_of (b ∷ bs) =
    cond (is_blank b) kind.Blank
    (cond (b == 37) kind.Comment
    (cond (is_ascii_lowercase b) (cond (bytes_eq (b ∷ bs) (codes "mod")) (kind.Symbol (symbol.Product Modulo)) kind.Name)
    (cond (begins_variable b) kind.Variable
    (cond (is_ascii_digit b) kind.Integer
    (cond (is_ascii_digit (get_or bs 0 0)) kind.Integer (kind.Symbol (symbol_of (b ∷ bs))))))))

-- bytes have the form of one kind at most
pub kind_of_form : (signs : Bool) (k : Kind) (bs : List ℕ) → HasForm signs k bs → kind_of bs ≡ k
kind_of_form signs k [] form = absurd (no_form_is_empty signs k form)
kind_of_form signs kind.Blank (b ∷ bs) form = let first = form.0 in grind (arith, first)
kind_of_form signs kind.Comment (b ∷ bs) form = let first = form.0 in grind (arith, nat_tests, first)
kind_of_form signs kind.Name (b ∷ bs) form =
    let first = form.0.0 in
    let other : bytes_eq (b ∷ bs) (codes "mod") ≡ false =
    false_from_ne_true (bytes_eq (b ∷ bs) (codes "mod")) (λ same. form.1 ((bytes_eq-Decides (b ∷ bs) (codes "mod")).0 same)) in
    grind (arith, nat_tests, first, other)
kind_of_form signs kind.Variable (b ∷ bs) form = let first = form.0 in grind (arith, nat_tests, first)
kind_of_form signs kind.Integer (b ∷ bs) (inl run) = let first = run.0 in grind (arith, nat_tests, first)
kind_of_form signs kind.Integer (b ∷ []) (inr negative) = absurd negative.1.1
kind_of_form signs kind.Integer (b ∷ d ∷ ds) (inr negative) = grind (arith, nat_tests, negative.1.0, negative.1.1.0)
kind_of_form signs (kind.Symbol s) (b ∷ bs) form = ap kind_of form ∙ grind arith

-- ---- the piece at a place

-- two beginnings of a text of one length are one
pub same_front : (a b c d : List ℕ) → length a ≡ length c → a ++ b ≡ c ++ d → a ≡ c
same_front [] b [] d same e = refl
same_front [] b (x ∷ c) d same e = absurd (omega arith)
same_front (x ∷ a) b [] d same e = absurd (omega arith)
same_front (x ∷ a) b (y ∷ c) d same e =
    let fronts = same_front a b c d (omega arith) (cc) in cc (fronts)

same_parts : (p q : Piece) → p.kind ≡ q.kind → p.bytes ≡ q.bytes → p ≡ q
same_parts p q kinds texts = λ i. record { kind = kinds i; bytes = texts i }

-- at most one piece stands in front of a text
pub one_piece : (signs : Bool) (p q : Piece) (rest more : List ℕ) → Stands signs p rest → Stands signs q more → p.bytes ++ rest ≡ q.bytes ++ more → p ≡ q
one_piece signs p q rest more stands stands' e =
    let below = stands.longest q more stands'.form e in
    let above = stands'.longest p rest stands.form (sym e) in
    let texts = same_front p.bytes rest q.bytes more (omega arith) e in
    same_parts p q (sym (kind_of_form signs p.kind p.bytes stands.form) ∙ ap kind_of texts ∙ kind_of_form signs q.kind q.bytes stands'.form) texts
