-- A fault in a part of a goal is one of the goals.
use Rattle.ghc_reader.proofs.Words.{◌≡◌, ℕ, List, [], ◌∷◌, length, refl, sym, ap, ◌∙◌, subst, Comma, Equals, Assign, Token, first, Begins, IsNotNamed, Term, variable, call, list, Arguments, Expression, Item, goal, unify, assign, Body, last, next, term, arguments, expression, item, body, EndsArguments, EndsTerm, EndsExpression, EndsItem, EndsBody, Fault}
use Rattle.ghc_reader.specs.declared.token.Token.TheVariants as token
use Rattle.ghc_reader.proofs.Append.{some_variable, term_append, arguments_append, expression_append, item_append, body_append}
use Rattle.ghc_reader.proofs.Ends.{ends_term}
use Rattle.ghc_reader.proofs.OneTerm.{one_term}
use Rattle.ghc_reader.proofs.OneGoal.{comma_ends_item, one_item}
use Rattle.ghc_reader.proofs.Faults.{in_front, inside, here}
use Rattle.ghc_reader.proofs.TermFaults.{arguments_of_term}

arguments_of_item : (f : List ℕ) (d : Item) (us r : List Token) → EndsItem d (first r) → token.Name f ∷ us ≡ item d r → (c : Arguments) × (r' : List Token) × EndsArguments c (first r') × (us ≡ arguments c r')
arguments_of_item f (goal g x) us r p e = (x, r, p.0, cc)
arguments_of_item f (unify s t) us r p e =
    let x = arguments_of_term f s us (token.Mark Equals ∷ term t r) (ends_term Equals (λ h. cc) s) e in
    (x.0, token.Mark Equals ∷ term t r, x.1, x.2)
arguments_of_item f (assign v x) us r p e = cc

pub arguments_in_item : (f : List ℕ) (ts : List Token) (left : ℕ) → Fault Arguments arguments EndsArguments ts left → Fault Item item EndsItem (token.Name f ∷ ts) left
arguments_in_item f ts left h =
    inside (λ l. token.Name f ∷ l) h (λ a b. refl) arguments_append (λ c. (goal f c, [], refl))
    (λ us same d r p e. arguments_of_item f d us r p e)

-- a term stands in front: of the mark of an equation, or a variable in front of the mark of an assignment
term_of_item : (d : Item) (us r : List Token) → EndsItem d (first r) → IsNotNamed us → us ≡ item d r → (c : Term) × (r' : List Token) × EndsTerm c (first r') × (us ≡ term c r')
term_of_item (goal g x) us r p n e = absurd (n g (ap first e))
term_of_item (unify s t) us r p n e = (s, token.Mark Equals ∷ term t r, ends_term Equals (λ h. cc) s, e)
term_of_item (assign v x) us r p n e = (variable v, token.Mark Assign ∷ expression x r, tt, e)

pub term_in_item : (ts : List Token) (left : ℕ) → IsNotNamed ts → Fault Term term EndsTerm ts left → Fault Item item EndsItem ts left
term_in_item ts left n f =
    inside (λ l. l) f (λ a b. refl) term_append (λ c. (unify c (variable some_variable), token.Mark Equals ∷ token.Variable some_variable ∷ [], refl))
    (λ us same d r p e. term_of_item d us r p (λ f q. n f (sym same ∙ q)) e)

first_of_term : (s : Term) (a b : List Token) → first (term s a) ≡ first (term s b)
first_of_term (list x) a b = refl
first_of_term s a b = refl

-- what stands after the term in front of an item
behind_term : (s : Term) (d : Item) (us r : List Token) → EndsItem d (first r) → IsNotNamed (term s us) → EndsTerm s (first us) → ¬ Begins Equals us → term s us ≡ item d r → (v : List ℕ) × (s ≡ variable v) × Begins Assign us
behind_term s (goal g x) us r q n p m e = absurd (n g (ap first e))
behind_term s (unify u t) us r q n p m e =
    let y = one_term s u us (token.Mark Equals ∷ term t r) p (ends_term Equals (λ h. cc) u) e in absurd (m (ap first y.behind))
behind_term s (assign v x) us r q n p m e =
    let y = one_term s (variable v) us (token.Mark Assign ∷ expression x r) p tt e in (v, y.derivation, ap first y.behind)

pub equals_missing : (s : Term) (ts : List Token) → IsNotNamed (term s ts) → EndsTerm s (first ts) → ¬ Begins Equals ts → ((v : List ℕ) → s ≡ variable v → ¬ Begins Assign ts) → Fault Item item EndsItem (term s ts) (length ts)
equals_missing s ts unnamed p n m =
    here Item item EndsItem (λ l. term s l) ts (λ a b. term_append s a b) (unify s (variable some_variable)) (token.Mark Equals ∷ token.Variable some_variable ∷ []) refl
    (λ us same d r q e.
    let x = behind_term s d us r q (λ f h. unnamed f (first_of_term s ts us ∙ h)) (subst (EndsTerm s) (sym same) p) (λ h. n (sym same ∙ h)) e in
    m x.0 x.1 (sym same ∙ x.2))

right_of_item : (s : Term) (d : Item) (us r : List Token) → EndsItem d (first r) → term s (token.Mark Equals ∷ us) ≡ item d r → (t : Term) × EndsTerm t (first r) × (us ≡ term t r)
right_of_item s (goal g x) us r p e =
    let y = one_term s (call g x) (token.Mark Equals ∷ us) r (ends_term Equals (λ h. cc) s) p.0 e in absurd (p.1 (sym (ap first y.behind)))
right_of_item s (unify u t) us r p e =
    let y = one_term s u (token.Mark Equals ∷ us) (token.Mark Equals ∷ term t r) (ends_term Equals (λ h. cc) s) (ends_term Equals (λ h. cc) u) e in
    (t, p, cc)
right_of_item s (assign v x) us r p e =
    let y = one_term s (variable v) (token.Mark Equals ∷ us) (token.Mark Assign ∷ expression x r) (ends_term Equals (λ h. cc) s) tt e in
    cc

expression_of_item : (v : List ℕ) (d : Item) (us r : List Token) → EndsItem d (first r) → token.Variable v ∷ token.Mark Assign ∷ us ≡ item d r → (c : Expression) × EndsExpression c (first r) × (us ≡ expression c r)
expression_of_item v (goal g x) us r p e = cc
expression_of_item v (unify u t) us r p e =
    let y = one_term (variable v) u (token.Mark Assign ∷ us) (token.Mark Equals ∷ term t r) tt (ends_term Equals (λ h. cc) u) e in
    cc
expression_of_item v (assign w x) us r p e = (x, p, cc)

pub expression_in_item : (v : List ℕ) (ts : List Token) (left : ℕ) → Fault Expression expression EndsExpression ts left → Fault Item item EndsItem (token.Variable v ∷ token.Mark Assign ∷ ts) left
expression_in_item v ts left f =
    inside (λ l. token.Variable v ∷ token.Mark Assign ∷ l) f (λ a b. refl) expression_append (λ c. (assign v c, [], refl))
    (λ us same d r p e. let x = expression_of_item v d us r p e in (x.0, r, x.1, x.2))

pub right_in_item : (s : Term) (ts : List Token) (left : ℕ) → Fault Term term EndsTerm ts left → Fault Item item EndsItem (term s (token.Mark Equals ∷ ts)) left
right_in_item s ts left f =
    inside (λ l. term s (token.Mark Equals ∷ l)) f (λ a b. term_append s (token.Mark Equals ∷ a) b) term_append (λ c. (unify s c, [], refl))
    (λ us same d r p e. let x = right_of_item s d us r p e in (x.0, r, x.1, x.2))

first_of_body : (d : Body) (us r : List Token) → EndsBody d (first r) → us ≡ body d r → (c : Item) × (r' : List Token) × EndsItem c (first r') × (us ≡ item c r')
first_of_body (last i) us r p e = (i, r, p.0, e)
first_of_body (next i x) us r p e = (i, token.Mark Comma ∷ body x r, comma_ends_item i, e)

pub first_in_body : (ts : List Token) (left : ℕ) → Fault Item item EndsItem ts left → Fault Body body EndsBody ts left
first_in_body ts left f =
    in_front f item_append (λ c. (last c, [], refl)) first_of_body

-- one more item at the end
abbrev pub and_then : Body → Item → Body
and_then (last i) j = next i (last j)
and_then (next i x) j = next i (and_then x j)

pub body_and_then : (x : Body) (j : Item) (ts : List Token) → body (and_then x j) ts ≡ body x (token.Mark Comma ∷ item j ts)
body_and_then (last i) j ts = refl
body_and_then (next i x) j ts = ap (λ l. item i (token.Mark Comma ∷ l)) (body_and_then x j ts)

-- the goals after a first one
others_of_body : (i : Item) (d : Body) (us r : List Token) → EndsBody d (first r) → item i (token.Mark Comma ∷ us) ≡ body d r
    → (y : Body) × (r' : List Token) × EndsBody y (first r') × (us ≡ body y r')
others_of_body i (last j) us r p e =
    let s = one_item i j (token.Mark Comma ∷ us) r (comma_ends_item i) p.0 e in absurd (p.1 (sym (ap first s.behind)))
others_of_body i (next j y) us r p e =
    let s = one_item i j (token.Mark Comma ∷ us) (token.Mark Comma ∷ body y r) (comma_ends_item i) (comma_ends_item j) e in
    (y, r, p, cc)

behind_first : (i : Item) (ts : List Token) (left : ℕ) → Fault Body body EndsBody ts left → Fault Body body EndsBody (item i (token.Mark Comma ∷ ts)) left
behind_first i ts left f =
    inside (λ l. item i (token.Mark Comma ∷ l)) f (λ a b. item_append i (token.Mark Comma ∷ a) b) body_append (λ c. (next i c, [], refl))
    (λ us same d r p e. others_of_body i d us r p e)

pub next_in_body : (x : Body) (ts : List Token) (left : ℕ) → Fault Item item EndsItem ts left → Fault Body body EndsBody (body x (token.Mark Comma ∷ ts)) left
next_in_body (last i) ts left f = behind_first i ts left (first_in_body ts left f)
next_in_body (next i x) ts left f = behind_first i (body x (token.Mark Comma ∷ ts)) left (next_in_body x ts left f)
