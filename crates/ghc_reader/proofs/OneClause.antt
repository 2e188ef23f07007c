-- No text has two derivations as a clause or a program.
use Rattle.ghc_reader.proofs.Words.{◌≡◌, ◌≢◌, List, [], ◌∷◌, refl, sym, ap, ◌∙◌, Bar, Define, Stop, Token, Right, unguarded, guarded, Clause, fact, rule, Program, done, clauses, arguments, body, right, clause, program, arith}
use Rattle.ghc_reader.specs.declared.token.Token.TheVariants as token
use Rattle.ghc_reader.proofs.Ends.{stop_ends_tests, bar_ends_tests, stop_ends_body, stop_ends_arguments, define_ends_arguments}
use Rattle.ghc_reader.proofs.OneTerm.{Same, one_arguments}
use Rattle.ghc_reader.proofs.OneGoal.{one_tests, one_body, as_tests, tests_body}

pub one_right : (c d : Right) (a b : List Token) → right c a ≡ right d b → Same c d a b
one_right (unguarded x) (unguarded y) a b e =
    let s = one_body x y (token.Mark Stop ∷ a) (token.Mark Stop ∷ b) (stop_ends_body x) (stop_ends_body y) e in
    record { derivation = ap unguarded s.derivation; behind = cc }
one_right (unguarded x) (guarded t y) a b e =
    let s = one_tests (as_tests x) t (token.Mark Stop ∷ a) (token.Mark Bar ∷ body y (token.Mark Stop ∷ b)) (stop_ends_tests (as_tests x)) (bar_ends_tests t) (tests_body x (token.Mark Stop ∷ a) ∙ e) in
    cc
one_right (guarded t x) (unguarded y) a b e =
    let s = one_tests t (as_tests y) (token.Mark Bar ∷ body x (token.Mark Stop ∷ a)) (token.Mark Stop ∷ b) (bar_ends_tests t) (stop_ends_tests (as_tests y)) (e ∙ sym (tests_body y (token.Mark Stop ∷ b))) in
    cc
one_right (guarded t x) (guarded u y) a b e =
    let s = one_tests t u (token.Mark Bar ∷ body x (token.Mark Stop ∷ a)) (token.Mark Bar ∷ body y (token.Mark Stop ∷ b)) (bar_ends_tests t) (bar_ends_tests u) e in
    let s2 = one_body x y (token.Mark Stop ∷ a) (token.Mark Stop ∷ b) (stop_ends_body x) (stop_ends_body y) (cc) in
    record { derivation = cc; behind = cc }

pub one_clause : (c d : Clause) (a b : List Token) → clause c a ≡ clause d b → Same c d a b
one_clause (fact f x) (fact h y) a b e =
    let tail : arguments x (token.Mark Stop ∷ a) ≡ arguments y (token.Mark Stop ∷ b) = cc in
    let s = one_arguments x y (token.Mark Stop ∷ a) (token.Mark Stop ∷ b) (stop_ends_arguments x) (stop_ends_arguments y) tail in
    record { derivation = cc; behind = cc }
one_clause (fact f x) (rule h y r) a b e =
    let tail : arguments x (token.Mark Stop ∷ a) ≡ arguments y (token.Mark Define ∷ right r b) = cc in
    let s = one_arguments x y (token.Mark Stop ∷ a) (token.Mark Define ∷ right r b) (stop_ends_arguments x) (define_ends_arguments y) tail in
    cc
one_clause (rule f x r) (fact h y) a b e =
    let tail : arguments x (token.Mark Define ∷ right r a) ≡ arguments y (token.Mark Stop ∷ b) = cc in
    let s = one_arguments x y (token.Mark Define ∷ right r a) (token.Mark Stop ∷ b) (define_ends_arguments x) (stop_ends_arguments y) tail in
    cc
one_clause (rule f x r) (rule h y q) a b e =
    let s = one_arguments x y (token.Mark Define ∷ right r a) (token.Mark Define ∷ right q b) (define_ends_arguments x) (define_ends_arguments y) (cc) in
    let s2 = one_right r q a b (cc) in
    record { derivation = cc; behind = s2.behind }

clause_begins : (c : Clause) (a : List Token) → clause c a ≢ []
clause_begins c a e = grind arith

-- a text has one derivation
pub one_program : (p q : Program) → program p [] ≡ program q [] → p ≡ q
one_program done done e = refl
one_program done (clauses d q) e = absurd (clause_begins d (program q []) (sym e))
one_program (clauses c p) done e = absurd (clause_begins c (program p []) e)
one_program (clauses c p) (clauses d q) e =
    let s = one_clause c d (program p []) (program q []) e in
    let same2 = one_program p q s.behind in cc
