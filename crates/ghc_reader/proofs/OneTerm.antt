-- No text has two derivations as a term.
use Rattle.ghc_reader.proofs.Words.{◌≡◌, ◌≢◌, List, ◌∷◌, Some, refl, sym, ap, Mark, Close, OpenList, CloseList, Comma, Bar, Equals, Token, first, Term, variable, integer, call, list, Arguments, without, within, Rest, closed, whole, partial, Terms, one, more, term, arguments, rest, terms, EndsArguments, EndsTerm, EndsTerms}
use Rattle.ghc_reader.specs.declared.token.Token.TheVariants as token
use Rattle.ghc_reader.proofs.Ends.{ends_term, ends_terms}

-- the two derivations are one, and so are the tokens after them
pub record Same {C : Type 0} (c d : C) (a b : List Token) : Type 0 where
  pub derivation : c ≡ d
  pub behind : a ≡ b

-- a mark that no term begins with
pub no_term : (m : Mark) (ts : List Token) → m ≢ OpenList → (c : Term) (a : List Token) → token.Mark m ∷ ts ≡ term c a → ⊥
no_term m ts h (list r) a e = h (cc)
no_term m ts h c a e = cc

pub no_terms : (m : Mark) (ts : List Token) → m ≢ OpenList → (c : Terms) (a : List Token) → token.Mark m ∷ ts ≡ terms c a → ⊥
no_terms m ts h (one t) a e = no_term m ts h t a e
no_terms m ts h (more t x) a e = no_term m ts h t (token.Mark Comma ∷ terms x a) e

close_ends : (c : Terms) → EndsTerms c (Some (token.Mark Close))
close_ends = ends_terms Close (λ h. cc) (λ h. cc)

close_list_ends : (c : Terms) → EndsTerms c (Some (token.Mark CloseList))
close_list_ends = ends_terms CloseList (λ h. cc) (λ h. cc)

bar_ends : (c : Terms) → EndsTerms c (Some (token.Mark Bar))
bar_ends = ends_terms Bar (λ h. cc) (λ h. cc)

comma_ends : (c : Term) → EndsTerm c (Some (token.Mark Comma))
comma_ends = ends_term Comma (λ h. cc)

pub equals_ends : (c : Term) → EndsTerm c (Some (token.Mark Equals))
equals_ends = ends_term Equals (λ h. cc)

mutual
  pub one_term : (c d : Term) (a b : List Token) → EndsTerm c (first a) → EndsTerm d (first b) → term c a ≡ term d b → Same c d a b
  one_term (variable v) (variable w) a b p q e = record { derivation = cc; behind = cc }
  one_term (integer v) (integer w) a b p q e = record { derivation = cc; behind = cc }
  one_term (call f x) (call h y) a b p q e =
      let tail : arguments x a ≡ arguments y b = cc in
      let s = one_arguments x y a b p q tail in
      record { derivation = cc; behind = s.behind }
  one_term (list r) (list s) a b p q e =
      let s = one_rest r s a b (cc) in
      record { derivation = ap list s.derivation; behind = s.behind }
  one_term c d a b p q e = cc

  pub one_arguments : (c d : Arguments) (a b : List Token) → EndsArguments c (first a) → EndsArguments d (first b) → arguments c a ≡ arguments d b → Same c d a b
  one_arguments without without a b p q e = record { derivation = refl; behind = e }
  one_arguments without (within y) a b p q e = absurd (p (ap first e))
  one_arguments (within x) without a b p q e = absurd (q (sym (ap first e)))
  one_arguments (within x) (within y) a b p q e =
      let s = one_terms x y (token.Mark Close ∷ a) (token.Mark Close ∷ b) (close_ends x) (close_ends y) (cc) in
      record { derivation = ap within s.derivation; behind = cc }

  pub one_rest : (c d : Rest) (a b : List Token) → rest c a ≡ rest d b → Same c d a b
  one_rest closed closed a b e = record { derivation = refl; behind = cc }
  one_rest closed (whole y) a b e = absurd (no_terms CloseList a (λ h. cc) y (token.Mark CloseList ∷ b) e)
  one_rest closed (partial y t) a b e = absurd (no_terms CloseList a (λ h. cc) y (token.Mark Bar ∷ term t (token.Mark CloseList ∷ b)) e)
  one_rest (whole x) closed a b e = absurd (no_terms CloseList b (λ h. cc) x (token.Mark CloseList ∷ a) (sym e))
  one_rest (partial x t) closed a b e = absurd (no_terms CloseList b (λ h. cc) x (token.Mark Bar ∷ term t (token.Mark CloseList ∷ a)) (sym e))
  one_rest (whole x) (whole y) a b e =
      let s = one_terms x y (token.Mark CloseList ∷ a) (token.Mark CloseList ∷ b) (close_list_ends x) (close_list_ends y) e in
      record { derivation = ap whole s.derivation; behind = cc }
  one_rest (whole x) (partial y t) a b e =
      let s = one_terms x y (token.Mark CloseList ∷ a) (token.Mark Bar ∷ term t (token.Mark CloseList ∷ b)) (close_list_ends x) (bar_ends y) e in
      cc
  one_rest (partial x t) (whole y) a b e =
      let s = one_terms x y (token.Mark Bar ∷ term t (token.Mark CloseList ∷ a)) (token.Mark CloseList ∷ b) (bar_ends x) (close_list_ends y) e in
      cc
  one_rest (partial x t) (partial y u) a b e =
      let s = one_terms x y (token.Mark Bar ∷ term t (token.Mark CloseList ∷ a)) (token.Mark Bar ∷ term u (token.Mark CloseList ∷ b)) (bar_ends x) (bar_ends y) e in
      let s2 = one_term t u (token.Mark CloseList ∷ a) (token.Mark CloseList ∷ b) (ends_term CloseList (λ h. cc) t) (ends_term CloseList (λ h. cc) u) (cc) in
      record { derivation = cc; behind = cc }

  pub one_terms : (c d : Terms) (a b : List Token) → EndsTerms c (first a) → EndsTerms d (first b) → terms c a ≡ terms d b → Same c d a b
  one_terms (one t) (one u) a b p q e =
      let s = one_term t u a b p.0 q.0 e in record { derivation = ap one s.derivation; behind = s.behind }
  one_terms (one t) (more u y) a b p q e =
      let s = one_term t u a (token.Mark Comma ∷ terms y b) p.0 (comma_ends u) e in absurd (p.1 (ap first s.behind))
  one_terms (more t x) (one u) a b p q e =
      let s = one_term t u (token.Mark Comma ∷ terms x a) b (comma_ends t) q.0 e in absurd (q.1 (sym (ap first s.behind)))
  one_terms (more t x) (more u y) a b p q e =
      let s = one_term t u (token.Mark Comma ∷ terms x a) (token.Mark Comma ∷ terms y b) (comma_ends t) (comma_ends u) e in
      let s2 = one_terms x y a b p q (cc) in
      record { derivation = cc; behind = s2.behind }
