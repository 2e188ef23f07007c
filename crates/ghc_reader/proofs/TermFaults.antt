-- A fault in a part of a term is one of the term.
use Rattle.ghc_reader.proofs.Words.{◌≡◌, ◌≢◌, ℕ, List, [], ◌∷◌, length, Option, Some, refl, sym, ap, ◌∙◌, subst, Mark, Open, Close, OpenList, CloseList, Comma, Bar, Token, first, Begins, Term, variable, call, list, Arguments, without, within, Rest, closed, whole, partial, Terms, one, more, term, arguments, rest, terms, EndsArguments, EndsTerm, EndsTerms, EndsRest, Fault}
use Rattle.ghc_reader.specs.declared.token.Token.TheVariants as token
use Rattle.ghc_reader.proofs.Append.{some_variable, term_append, arguments_append, rest_append, terms_append}
use Rattle.ghc_reader.proofs.Ends.{ends_term, ends_terms}
use Rattle.ghc_reader.proofs.OneTerm.{no_terms, one_term, one_terms}
use Rattle.ghc_reader.proofs.Faults.{in_front, inside, here}

first_of_terms : (d : Terms) (us r : List Token) → EndsTerms d (first r) → us ≡ terms d r → (c : Term) × (r' : List Token) × EndsTerm c (first r') × (us ≡ term c r')
first_of_terms (one t) us r p e = (t, r, p.0, e)
first_of_terms (more t x) us r p e = (t, token.Mark Comma ∷ terms x r, ends_term Comma (λ h. cc) t, e)

pub first_in_terms : (ts : List Token) (left : ℕ) → Fault Term term EndsTerm ts left → Fault Terms terms EndsTerms ts left
first_in_terms ts left f =
    in_front f term_append (λ c. (one c, [], refl)) first_of_terms

-- one more term at the end
abbrev pub also : Terms → Term → Terms
also (one t) u = more t (one u)
also (more t x) u = more t (also x u)

pub terms_also : (x : Terms) (u : Term) (ts : List Token) → terms (also x u) ts ≡ terms x (token.Mark Comma ∷ term u ts)
terms_also (one t) u ts = refl
terms_also (more t x) u ts = ap (λ l. term t (token.Mark Comma ∷ l)) (terms_also x u ts)

-- the terms after a first one
others_of_terms : (t : Term) (d : Terms) (us r : List Token) → EndsTerms d (first r) → term t (token.Mark Comma ∷ us) ≡ terms d r
    → (y : Terms) × (r' : List Token) × EndsTerms y (first r') × (us ≡ terms y r')
others_of_terms t (one u) us r p e =
    let s = one_term t u (token.Mark Comma ∷ us) r (ends_term Comma (λ h. cc) t) p.0 e in absurd (p.1 (sym (ap first s.behind)))
others_of_terms t (more u y) us r p e =
    let s = one_term t u (token.Mark Comma ∷ us) (token.Mark Comma ∷ terms y r) (ends_term Comma (λ h. cc) t) (ends_term Comma (λ h. cc) u) e in
    (y, r, p, cc)

behind_first : (t : Term) (ts : List Token) (left : ℕ) → Fault Terms terms EndsTerms ts left → Fault Terms terms EndsTerms (term t (token.Mark Comma ∷ ts)) left
behind_first t ts left f =
    inside (λ l. term t (token.Mark Comma ∷ l)) f (λ a b. term_append t (token.Mark Comma ∷ a) b) terms_append (λ c. (more t c, [], refl))
    (λ us same d r p e. others_of_terms t d us r p e)

pub next_in_terms : (x : Terms) (ts : List Token) (left : ℕ) → Fault Term term EndsTerm ts left → Fault Terms terms EndsTerms (terms x (token.Mark Comma ∷ ts)) left
next_in_terms (one t) ts left f = behind_first t ts left (first_in_terms ts left f)
next_in_terms (more t x) ts left f = behind_first t (terms x (token.Mark Comma ∷ ts)) left (next_in_terms x ts left f)

-- ---- what stands after a name

terms_of_arguments : (d : Arguments) (us r : List Token) → EndsArguments d (first r) → token.Mark Open ∷ us ≡ arguments d r → (c : Terms) × (us ≡ terms c (token.Mark Close ∷ r))
terms_of_arguments without us r p e = absurd (p (sym (ap first e)))
terms_of_arguments (within x) us r p e = (x, cc)

pub terms_in_arguments : (ts : List Token) (left : ℕ) → Fault Terms terms EndsTerms ts left → Fault Arguments arguments EndsArguments (token.Mark Open ∷ ts) left
terms_in_arguments ts left f =
    inside (λ l. token.Mark Open ∷ l) f (λ a b. refl) terms_append (λ c. (within c, token.Mark Close ∷ [], refl))
    (λ us same d r p e. let x = terms_of_arguments d us r p e in (x.0, token.Mark Close ∷ r, ends_terms Close (λ h. cc) (λ h. cc) x.0, x.1))

pub close_missing : (x : Terms) (ts : List Token) → EndsTerms x (first ts) → ¬ Begins Close ts → Fault Arguments arguments EndsArguments (token.Mark Open ∷ terms x ts) (length ts)
close_missing x ts p n =
    here Arguments arguments EndsArguments (λ l. token.Mark Open ∷ terms x l) ts (λ a b. ap (λ l. token.Mark Open ∷ l) (terms_append x a b)) (within x) (token.Mark Close ∷ []) refl
    (λ us same d r q e.
    let y = terms_of_arguments d (terms x us) r q e in
    let s = one_terms x y.0 us (token.Mark Close ∷ r) (subst (EndsTerms x) (sym same) p) (ends_terms Close (λ h. cc) (λ h. cc) y.0) y.1 in
    n (sym same ∙ ap first s.behind))

-- ---- a term

pub arguments_of_term : (f : List ℕ) (d : Term) (us r : List Token) → EndsTerm d (first r) → token.Name f ∷ us ≡ term d r → (c : Arguments) × EndsArguments c (first r) × (us ≡ arguments c r)
arguments_of_term f (call g x) us r p e = (x, p, cc)
arguments_of_term f d us r p e = cc

pub arguments_in_term : (f : List ℕ) (ts : List Token) (left : ℕ) → Fault Arguments arguments EndsArguments ts left → Fault Term term EndsTerm (token.Name f ∷ ts) left
arguments_in_term f ts left h =
    inside (λ l. token.Name f ∷ l) h (λ a b. refl) arguments_append (λ c. (call f c, [], refl))
    (λ us same d r p e. let x = arguments_of_term f d us r p e in (x.0, r, x.1, x.2))

rest_of_term : (d : Term) (us r : List Token) → token.Mark OpenList ∷ us ≡ term d r → (c : Rest) × (us ≡ rest c r)
rest_of_term (list x) us r e = (x, cc)
rest_of_term d us r e = cc

pub rest_in_term : (ts : List Token) (left : ℕ) → Fault Rest rest EndsRest ts left → Fault Term term EndsTerm (token.Mark OpenList ∷ ts) left
rest_in_term ts left h =
    inside (λ l. token.Mark OpenList ∷ l) h (λ a b. refl) rest_append (λ c. (list c, [], refl))
    (λ us same d r p e. let x = rest_of_term d us r e in (x.0, r, tt, x.1))

-- a token that no term begins with, or the end
abbrev pub BeginsNoTerm : Option Token → Type 0
BeginsNoTerm (Some (token.Name f)) = ⊥
BeginsNoTerm (Some (token.Variable v)) = ⊥
BeginsNoTerm (Some (token.Integer n)) = ⊥
BeginsNoTerm (Some (token.Mark m)) = m ≢ OpenList
BeginsNoTerm _ = Unit {0}

begins_term : (c : Term) (r : List Token) → BeginsNoTerm (first (term c r)) → ⊥
begins_term (list x) r h = h refl
begins_term c r h = h

pub no_term_here : (ts : List Token) → BeginsNoTerm (first ts) → Fault Term term EndsTerm ts (length ts)
no_term_here ts h =
    here Term term EndsTerm (λ l. l) ts (λ a b. refl) (variable some_variable) (token.Variable some_variable ∷ []) refl
    (λ us same d r q e. begins_term d r (subst BeginsNoTerm (sym same ∙ ap first e) h))

-- ---- what stands after the bracket that opens a list

terms_of_rest : (d : Rest) (us r : List Token) → ¬ Begins CloseList us → us ≡ rest d r → (c : Terms) × (r' : List Token) × EndsTerms c (first r') × (us ≡ terms c r')
terms_of_rest closed us r n e = absurd (n (ap first e))
terms_of_rest (whole x) us r n e = (x, token.Mark CloseList ∷ r, ends_terms CloseList (λ h. cc) (λ h. cc) x, e)
terms_of_rest (partial x t) us r n e = (x, token.Mark Bar ∷ term t (token.Mark CloseList ∷ r), ends_terms Bar (λ h. cc) (λ h. cc) x, e)

pub terms_in_rest : (ts : List Token) (left : ℕ) → ¬ Begins CloseList ts → Fault Terms terms EndsTerms ts left → Fault Rest rest EndsRest ts left
terms_in_rest ts left n f =
    inside (λ l. l) f (λ a b. refl) terms_append (λ c. (whole c, token.Mark CloseList ∷ [], refl))
    (λ us same d r p e. terms_of_rest d us r (λ b. n (sym same ∙ b)) e)

terms_begin : (m : Mark) (x : Terms) (a r : List Token) → m ≢ OpenList → terms x a ≡ token.Mark m ∷ r → ⊥
terms_begin m x a r h e = no_terms m r h x a (sym e)

-- after the terms of a list stands a bar, or the bracket that closes it
tail_of_rest : (x : Terms) (d : Rest) (us r : List Token) → EndsTerms x (first us) → ¬ Begins CloseList us → terms x us ≡ rest d r → (t : Term) × (us ≡ token.Mark Bar ∷ term t (token.Mark CloseList ∷ r))
tail_of_rest x closed us r p n e = absurd (terms_begin CloseList x us r (λ h. cc) e)
tail_of_rest x (whole y) us r p n e =
    let s = one_terms x y us (token.Mark CloseList ∷ r) p (ends_terms CloseList (λ h. cc) (λ h. cc) y) e in absurd (n (ap first s.behind))
tail_of_rest x (partial y t) us r p n e =
    let s = one_terms x y us (token.Mark Bar ∷ term t (token.Mark CloseList ∷ r)) p (ends_terms Bar (λ h. cc) (λ h. cc) y) e in (t, s.behind)

pub list_end_missing : (x : Terms) (ts : List Token) → EndsTerms x (first ts) → ¬ Begins CloseList ts → ¬ Begins Bar ts → Fault Rest rest EndsRest (terms x ts) (length ts)
list_end_missing x ts p n m =
    here Rest rest EndsRest (λ l. terms x l) ts (λ a b. terms_append x a b) (whole x) (token.Mark CloseList ∷ []) refl
    (λ us same d r q e.
    let y = tail_of_rest x d us r (subst (EndsTerms x) (sym same) p) (λ b. n (sym same ∙ b)) e in
    m (sym same ∙ ap first y.1))

term_of_rest : (x : Terms) (d : Rest) (us r : List Token) → terms x (token.Mark Bar ∷ us) ≡ rest d r → (t : Term) × (us ≡ term t (token.Mark CloseList ∷ r))
term_of_rest x d us r e =
    let y = tail_of_rest x d (token.Mark Bar ∷ us) r (ends_terms Bar (λ h. cc) (λ h. cc) x) (λ b. cc) e in
    let tail = y.1 in
    (y.0, cc)

pub term_in_rest : (x : Terms) (ts : List Token) (left : ℕ) → Fault Term term EndsTerm ts left → Fault Rest rest EndsRest (terms x (token.Mark Bar ∷ ts)) left
term_in_rest x ts left f =
    inside (λ l. terms x (token.Mark Bar ∷ l)) f (λ a b. terms_append x (token.Mark Bar ∷ a) b) term_append
    (λ c. (partial x c, token.Mark CloseList ∷ [], refl))
    (λ us same d r p e. let y = term_of_rest x d us r e in (y.0, token.Mark CloseList ∷ r, ends_term CloseList (λ h. cc) y.0, y.1))

pub tail_end_missing : (x : Terms) (t : Term) (ts : List Token) → EndsTerm t (first ts) → ¬ Begins CloseList ts → Fault Rest rest EndsRest (terms x (token.Mark Bar ∷ term t ts)) (length ts)
tail_end_missing x t ts p n =
    here Rest rest EndsRest (λ l. terms x (token.Mark Bar ∷ term t l)) ts
    (λ a b. ap (λ l. terms x (token.Mark Bar ∷ l)) (term_append t a b) ∙ terms_append x (token.Mark Bar ∷ term t a) b)
    (partial x t) (token.Mark CloseList ∷ []) refl
    (λ us same d r q e.
    let y = term_of_rest x d (term t us) r e in
    let s = one_term t y.0 us (token.Mark CloseList ∷ r) (subst (EndsTerm t) (sym same) p) (ends_term CloseList (λ h. cc) y.0) y.1 in
    n (sym same ∙ ap first s.behind))
