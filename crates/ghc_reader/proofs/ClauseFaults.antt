-- A fault in a part of a clause is one of the program.
use Rattle.ghc_reader.proofs.Words.{◌≡◌, ◌≢◌, ℕ, List, [], ◌∷◌, ◌++◌, length, None, refl, sym, ap, ◌∙◌, subst, ◌⊎◌, inl, inr, ⊎_elim, Bar, Define, Stop, Token, first, Begins, IsNotNamed, Arguments, without, goal, Tests, Body, last, Right, unguarded, guarded, Clause, fact, rule, Program, done, clauses, arguments, tests, body, right, clause, program, EndsArguments, EndsTests, EndsBody, EndsRight, EndsClause, EndsProgram, Fault, arith}
use Rattle.ghc_reader.specs.declared.token.Token.TheVariants as token
use Rattle.ghc_reader.proofs.Append.{some_name, arguments_append, tests_append, body_append, right_append, clause_append}
use Rattle.ghc_reader.proofs.Ends.{stop_ends_tests, bar_ends_tests, stop_ends_body, stop_ends_arguments, define_ends_arguments}
use Rattle.ghc_reader.proofs.OneTerm.{one_arguments}
use Rattle.ghc_reader.proofs.OneGoal.{one_tests, one_body, as_tests, tests_body}
use Rattle.ghc_reader.proofs.OneClause.{one_clause}
use Rattle.ghc_reader.proofs.Faults.{inside, here}

tests_of_right : (d : Right) (us r : List Token) → us ≡ right d r → (c : Tests) × (r' : List Token) × EndsTests c (first r') × (us ≡ tests c r')
tests_of_right (unguarded x) us r e = (as_tests x, token.Mark Stop ∷ r, stop_ends_tests (as_tests x), e ∙ sym (tests_body x (token.Mark Stop ∷ r)))
tests_of_right (guarded t x) us r e = (t, token.Mark Bar ∷ body x (token.Mark Stop ∷ r), bar_ends_tests t, e)

pub tests_in_right : (ts : List Token) (left : ℕ) → Fault Tests tests EndsTests ts left → Fault Right right EndsRight ts left
tests_in_right ts left f =
    inside (λ l. l) f (λ a b. refl) tests_append
    (λ c. (guarded c (last (goal some_name without)), token.Mark Bar ∷ token.Name some_name ∷ token.Mark Stop ∷ [], refl))
    (λ us same d r p e. tests_of_right d us r e)

-- after the tests stands a bar, or a full stop where they are a body
behind_tests : (t : Tests) (d : Right) (us r : List Token) → EndsTests t (first us) → tests t us ≡ right d r → ((b : Body) × (t ≡ as_tests b) × (us ≡ token.Mark Stop ∷ r)) ⊎ ((b : Body) × (us ≡ token.Mark Bar ∷ body b (token.Mark Stop ∷ r)))
behind_tests t (unguarded x) us r p e =
    let s = one_tests t (as_tests x) us (token.Mark Stop ∷ r) p (stop_ends_tests (as_tests x)) (e ∙ sym (tests_body x (token.Mark Stop ∷ r))) in inl (x, s.derivation, s.behind)
behind_tests t (guarded u x) us r p e =
    let s = one_tests t u us (token.Mark Bar ∷ body x (token.Mark Stop ∷ r)) p (bar_ends_tests u) e in inr (x, s.behind)

-- neither a bar stands there, nor a full stop after tests that are a body
pub bar_missing : (t : Tests) (ts : List Token) → EndsTests t (first ts) → ¬ Begins Bar ts → ((b : Body) → t ≡ as_tests b → ¬ Begins Stop ts) → Fault Right right EndsRight (tests t ts) (length ts)
bar_missing t ts p n m =
    here Right right EndsRight (λ l. tests t l) ts (λ a b. tests_append t a b) (guarded t (last (goal some_name without))) (token.Mark Bar ∷ token.Name some_name ∷ token.Mark Stop ∷ []) refl
    (λ us same d r q e.
    ⊎_elim
    (λ x. m x.0 x.1 (sym same ∙ ap first x.2))
    (λ x. n (sym same ∙ ap first x.1))
    (behind_tests t d us r (subst (EndsTests t) (sym same) p) e))

body_of_right : (t : Tests) (d : Right) (us r : List Token) → tests t (token.Mark Bar ∷ us) ≡ right d r → (b : Body) × (us ≡ body b (token.Mark Stop ∷ r))
body_of_right t d us r e =
    ⊎_elim
    (λ x. let behind = x.2 in cc)
    (λ x. let behind = x.1 in (x.0, cc))
    (behind_tests t d (token.Mark Bar ∷ us) r (bar_ends_tests t) e)

pub body_in_right : (t : Tests) (ts : List Token) (left : ℕ) → Fault Body body EndsBody ts left → Fault Right right EndsRight (tests t (token.Mark Bar ∷ ts)) left
body_in_right t ts left f =
    inside (λ l. tests t (token.Mark Bar ∷ l)) f (λ a b. tests_append t (token.Mark Bar ∷ a) b) body_append (λ c. (guarded t c, token.Mark Stop ∷ [], refl))
    (λ us same d r p e. let x = body_of_right t d us r e in (x.0, token.Mark Stop ∷ r, stop_ends_body x.0, x.1))

pub stop_missing : (t : Tests) (b : Body) (ts : List Token) → EndsBody b (first ts) → ¬ Begins Stop ts → Fault Right right EndsRight (tests t (token.Mark Bar ∷ body b ts)) (length ts)
stop_missing t b ts p n =
    here Right right EndsRight (λ l. tests t (token.Mark Bar ∷ body b l)) ts
    (λ a c. ap (λ l. tests t (token.Mark Bar ∷ l)) (body_append b a c) ∙ tests_append t (token.Mark Bar ∷ body b a) c)
    (guarded t b) (token.Mark Stop ∷ []) refl
    (λ us same d r q e.
    let x = body_of_right t d (body b us) r e in
    let s = one_body b x.0 us (token.Mark Stop ∷ r) (subst (EndsBody b) (sym same) p) (stop_ends_body x.0) x.1 in
    n (sym same ∙ ap first s.behind))

pub no_clause_here : (ts : List Token) → IsNotNamed ts → Fault Clause clause EndsClause ts (length ts)
no_clause_here ts n =
    here Clause clause EndsClause (λ l. l) ts (λ a b. refl) (fact some_name without) (token.Name some_name ∷ token.Mark Stop ∷ []) refl (λ us same d r q e. by_clause us same d r e)
  where
    by_clause : (us : List Token) → first us ≡ first ts → (d : Clause) (r : List Token) → us ≡ clause d r → ⊥
    by_clause us same (fact f x) r e = n f (sym same ∙ ap first e)
    by_clause us same (rule f x q) r e = n f (sym same ∙ ap first e)

arguments_of_clause : (f : List ℕ) (d : Clause) (us r : List Token) → token.Name f ∷ us ≡ clause d r → (c : Arguments) × (r' : List Token) × EndsArguments c (first r') × (us ≡ arguments c r')
arguments_of_clause f (fact g x) us r e = (x, token.Mark Stop ∷ r, stop_ends_arguments x, cc)
arguments_of_clause f (rule g x q) us r e = (x, token.Mark Define ∷ right q r, define_ends_arguments x, cc)

pub arguments_in_clause : (f : List ℕ) (ts : List Token) (left : ℕ) → Fault Arguments arguments EndsArguments ts left → Fault Clause clause EndsClause (token.Name f ∷ ts) left
arguments_in_clause f ts left h =
    inside (λ l. token.Name f ∷ l) h (λ a b. refl) arguments_append (λ c. (fact f c, token.Mark Stop ∷ [], refl))
    (λ us same d r p e. arguments_of_clause f d us r e)

pub define_missing : (f : List ℕ) (x : Arguments) (ts : List Token) → EndsArguments x (first ts) → ¬ Begins Stop ts → ¬ Begins Define ts → Fault Clause clause EndsClause (token.Name f ∷ arguments x ts) (length ts)
define_missing f x ts p n m =
    here Clause clause EndsClause (λ l. token.Name f ∷ arguments x l) ts (λ a b. ap (λ l. token.Name f ∷ l) (arguments_append x a b)) (fact f x) (token.Mark Stop ∷ []) refl (λ us same d r q e. by_clause us same d r e)
  where
    by_clause : (us : List Token) → first us ≡ first ts → (d : Clause) (r : List Token) → token.Name f ∷ arguments x us ≡ clause d r → ⊥
    by_clause us same (fact g y) r e =
        let tail : arguments x us ≡ arguments y (token.Mark Stop ∷ r) = cc in
        n (sym same ∙ ap first (one_arguments x y us (token.Mark Stop ∷ r) (subst (EndsArguments x) (sym same) p) (stop_ends_arguments y) tail).behind)
    by_clause us same (rule g y q) r e =
        let tail : arguments x us ≡ arguments y (token.Mark Define ∷ right q r) = cc in
        m (sym same ∙ ap first (one_arguments x y us (token.Mark Define ∷ right q r) (subst (EndsArguments x) (sym same) p) (define_ends_arguments y) tail).behind)

right_of_clause : (f : List ℕ) (x : Arguments) (d : Clause) (us r : List Token) → token.Name f ∷ arguments x (token.Mark Define ∷ us) ≡ clause d r → (c : Right) × (us ≡ right c r)
right_of_clause f x (fact g y) us r e =
    let tail : arguments x (token.Mark Define ∷ us) ≡ arguments y (token.Mark Stop ∷ r) = cc in
    let behind = (one_arguments x y (token.Mark Define ∷ us) (token.Mark Stop ∷ r) (define_ends_arguments x) (stop_ends_arguments y) tail).behind in cc
right_of_clause f x (rule g y q) us r e =
    let tail : arguments x (token.Mark Define ∷ us) ≡ arguments y (token.Mark Define ∷ right q r) = cc in
    let behind = (one_arguments x y (token.Mark Define ∷ us) (token.Mark Define ∷ right q r) (define_ends_arguments x) (define_ends_arguments y) tail).behind in (q, cc)

pub right_in_clause : (f : List ℕ) (x : Arguments) (ts : List Token) (left : ℕ) → Fault Right right EndsRight ts left → Fault Clause clause EndsClause (token.Name f ∷ arguments x (token.Mark Define ∷ ts)) left
right_in_clause f x ts left h =
    inside (λ l. token.Name f ∷ arguments x (token.Mark Define ∷ l)) h
    (λ a b. ap (λ l. token.Name f ∷ l) (arguments_append x (token.Mark Define ∷ a) b)) right_append
    (λ c. (rule f x c, [], refl))
    (λ us same d r p e. let y = right_of_clause f x d us r e in (y.0, r, tt, y.1))

program_append : (c : Program) (a b : List Token) → program c (a ++ b) ≡ program c a ++ b
program_append done a b = refl
program_append (clauses c p) a b = ap (clause c) (program_append p a b) ∙ clause_append c (program p a) b

abbrev pub and_clause : Program → Clause → Program
and_clause done d = clauses d done
and_clause (clauses c p) d = clauses c (and_clause p d)

pub program_and : (p : Program) (d : Clause) (ts : List Token) → program (and_clause p d) ts ≡ program p (clause d ts)
program_and done d ts = refl
program_and (clauses c p) d ts = ap (clause c) (program_and p d ts)

-- what stands after these clauses, where it isn't the end, is a clause
clause_of_program : (x d : Program) (us r : List Token) → EndsProgram d (first r) → first us ≢ None → program x us ≡ program d r → (c : Clause) × (r' : List Token) × (us ≡ clause c r')
clause_of_program done done us r p n e = absurd (n (ap first e ∙ p))
clause_of_program done (clauses c q) us r p n e = (c, program q r, e)
clause_of_program (clauses c x) done us r p n e = absurd (begins_clause c (program x us) (ap first e ∙ p))
  where
    begins_clause : (c : Clause) (a : List Token) → first (clause c a) ≡ None → ⊥
    begins_clause c a h = grind arith
clause_of_program (clauses c x) (clauses d y) us r p n e =
    let s = one_clause c d (program x us) (program y r) e in clause_of_program x y us r p n s.behind

pub clause_in_program : (x : Program) (ts : List Token) (left : ℕ) → first ts ≢ None → Fault Clause clause EndsClause ts left → Fault Program program EndsProgram (program x ts) left
clause_in_program x ts left n f =
    inside (λ l. program x l) f (λ a b. program_append x a b) clause_append (λ c. (and_clause x c, [], sym (program_and x c [])))
    (λ us same d r p e. let y = clause_of_program x d us r p (λ h. n (sym same ∙ h)) e in (y.0, y.1, tt, y.2))
