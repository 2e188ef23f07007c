-- The tokens of the shortest derivation of a tree have as their text what is printed of the term that the tree says.
use Rattle.ghc_reader.proofs.Words.{◌≡◌, ℕ, List, ◌∷◌, ◌++◌, sym, ap, ◌∙◌, append_assoc, codes, if◌then◌else◌, signed_decimal, VarName, node, trees, is_cell, variable_text, term_text, rest_text, cell_text, arguments_text, further_text, barred, IsNameText, Piece, Close, CloseList, Comma, Bar, Token, Term, Tree, Trees, SaysBy, SaysAllBy}
use Rattle.ghc_term.specs.Tree as term
use Rattle.ghc_reader.specs.declared.token.Token.TheVariants as token
use Rattle.ghc_reader.specs.Grammar as grammar
use Rattle.ghc_reader.specs.Source as tree
use Rattle.ghc_reader.proofs.Meanings.{IsSoundBy, AreSoundBy, name_no_cell, name_no_nil}
use Rattle.ghc_reader.proofs.InputSizes.{text_of_name}
use Rattle.ghc_reader.proofs.TokenTexts.{text_of}
use Rattle.ghc_reader.proofs.Derivations.{derive, derive_arguments, derive_terms, derive_list, derive_has, put_tokens}

-- the text of a name over arguments as the rest of a list
rest_of_name : (f : List ℕ) (ts : term.Trees) → IsNameText f → rest_text (node f ts) ≡ barred (f ++ arguments_text ts)
rest_of_name f ts name =
    ap (λ b. if b then codes "]" else if is_cell f ts then codes "," ++ cell_text ts else barred (f ++ arguments_text ts)) (name_no_nil f ts name)
    ∙ ap (λ b. if b then codes "," ++ cell_text ts else barred (f ++ arguments_text ts)) (name_no_cell f ts name)

-- where each variable is called as it is printed
module _ (C : List ℕ → VarName → Type 0) (W : List ℕ → Type 0) (called : (v : List ℕ) (x : VarName) → C v x → v ≡ variable_text x) (ps : List Piece) where
  -- the text of tokens, and of the pieces after them
  abbrev text : List Token → List ℕ
  text ts = text_of ts ps

  -- the derivation has this text
  abbrev HasText : Term → List ℕ → Type 0
  HasText d x = (ts : List Token) → text (grammar.term d ts) ≡ x ++ text ts

  mutual
    pub printed : (s : Tree) (u : term.Tree) → SaysBy C s u → IsSoundBy W s → HasText (derive s) (term_text u)
    printed (tree.variable v) u says sound ts = ap (λ l. l ++ text ts) (called v says.0 says.2 ∙ ap term_text (sym says.1))
    printed (tree.integer k) u says sound ts = ap (λ t. term_text t ++ text ts) (sym says)
    printed (tree.structure f us) u says sound ts =
        let vs = trees says.0 in
        ap (λ l. f ++ l) (printed_arguments us says.0 says.2 sound.1 ts) ∙ sym (append_assoc f (arguments_text vs) (text ts))
        ∙ ap (λ l. l ++ text ts) (sym (text_of_name f vs sound.0) ∙ ap term_text (sym says.1))
    printed tree.empty u says sound ts = ap (λ t. term_text t ++ text ts) (sym says)
    printed (tree.cell t r) u says sound ts =
        let a = says.0 in
        let b = says.1 in
        ap (λ l. 91 ∷ l) (printed_list (derive t) (term_text a) (printed t a says.3 sound.0) r b says.4 sound.1 ts
        ∙ sym (append_assoc (term_text a) (rest_text b) (text ts)))
        ∙ ap (λ t. term_text t ++ text ts) (sym says.2)

    pub printed_arguments : (us : Trees) (vs : List term.Tree) → SaysAllBy C us vs → AreSoundBy W us → (ts : List Token) → text (grammar.arguments (derive_arguments us) ts) ≡ arguments_text (trees vs) ++ text ts
    printed_arguments tree.none vs says sound ts = ap (λ l. arguments_text (trees l) ++ text ts) (sym says)
    printed_arguments (tree.some t us) vs says sound ts =
        let a = says.0 in
        ap (λ l. 40 ∷ l) (printed_terms (derive t) (term_text a) (printed t a says.3 sound.0) us says.1 says.4 sound.1 ts
        ∙ sym (append_assoc (term_text a) (further_text (trees says.1)) (text ts)))
        ∙ ap (λ l. arguments_text (trees l) ++ text ts) (sym says.2)

    printed_terms : (d : Term) (x : List ℕ) → HasText d x → (us : Trees) (vs : List term.Tree) → SaysAllBy C us vs → AreSoundBy W us → (ts : List Token)
        → text (grammar.terms (derive_terms d us) (token.Mark Close ∷ ts)) ≡ x ++ (further_text (trees vs) ++ text ts)
    printed_terms d x has tree.none vs says sound ts = has (token.Mark Close ∷ ts) ∙ ap (λ l. x ++ (further_text (trees l) ++ text ts)) (sym says)
    printed_terms d x has (tree.some t us) vs says sound ts =
        let a = says.0 in
        has (token.Mark Comma ∷ grammar.terms (derive_terms (derive t) us) (token.Mark Close ∷ ts))
        ∙ ap (λ l. x ++ (44 ∷ l)) (printed_terms (derive t) (term_text a) (printed t a says.3 sound.0) us says.1 says.4 sound.1 ts
        ∙ sym (append_assoc (term_text a) (further_text (trees says.1)) (text ts)))
        ∙ ap (λ l. x ++ (further_text (trees l) ++ text ts)) (sym says.2)

    printed_list : (d : Term) (x : List ℕ) → HasText d x → (s : Tree) (u : term.Tree) → SaysBy C s u → IsSoundBy W s → (ts : List Token)
        → text (grammar.rest (derive_list d s) ts) ≡ x ++ (rest_text u ++ text ts)
    printed_list d x has (tree.variable v) u says sound ts =
        has (token.Mark Bar ∷ token.Variable v ∷ token.Mark CloseList ∷ ts)
        ∙ ap (λ l. x ++ (124 ∷ l)) (sym (append_assoc v (codes "]") (text ts)))
        ∙ ap (λ l. x ++ (barred l ++ text ts)) (called v says.0 says.2)
        ∙ ap (λ t. x ++ (rest_text t ++ text ts)) (sym says.1)
    printed_list d x has (tree.integer k) u says sound ts =
        has (token.Mark Bar ∷ token.Integer k ∷ token.Mark CloseList ∷ ts)
        ∙ ap (λ l. x ++ (124 ∷ l)) (sym (append_assoc (signed_decimal k) (codes "]") (text ts)))
        ∙ ap (λ t. x ++ (rest_text t ++ text ts)) (sym says)
    printed_list d x has (tree.structure f us) u says sound ts =
        let vs = trees says.0 in
        let y = f ++ arguments_text vs in
        has (token.Mark Bar ∷ token.Name f ∷ grammar.arguments (derive_arguments us) (token.Mark CloseList ∷ ts))
        ∙ ap (λ l. x ++ (124 ∷ l)) (ap (λ l. f ++ l) (printed_arguments us says.0 says.2 sound.1 (token.Mark CloseList ∷ ts))
        ∙ sym (append_assoc f (arguments_text vs) (93 ∷ text ts))
        ∙ sym (append_assoc y (codes "]") (text ts)))
        ∙ ap (λ l. x ++ (l ++ text ts)) (sym (rest_of_name f vs sound.0) ∙ ap rest_text (sym says.1))
    printed_list d x has tree.empty u says sound ts = has (token.Mark CloseList ∷ ts) ∙ ap (λ t. x ++ (rest_text t ++ text ts)) (sym says)
    printed_list d x has (tree.cell t s) u says sound ts =
        let r = derive_list (derive t) s in
        let a = says.0 in
        let b = says.1 in
        ap text (put_tokens d r ts (derive_has (derive t) s))
        ∙ has (token.Mark Comma ∷ grammar.rest r ts)
        ∙ ap (λ l. x ++ (44 ∷ l)) (printed_list (derive t) (term_text a) (printed t a says.3 sound.0) s b says.4 sound.1 ts
        ∙ sym (append_assoc (term_text a) (rest_text b) (text ts)))
        ∙ ap (λ t. x ++ (rest_text t ++ text ts)) (sym says.2)
