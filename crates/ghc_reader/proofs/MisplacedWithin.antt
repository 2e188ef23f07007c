-- What is misplaced stands in the text: at its place no more tokens are left than the text has.
use Rattle.ghc_reader.proofs.Words.{◌≡◌, ℕ, ◌≤◌, Bool, true, false, List, [], ◌∷◌, ◌++◌, length, length-append, Some, refl, sym, ap, subst, ◌∙◌, arith, Comma, Bar, Define, Stop, Token, Arguments, Tests, Item, goal, unify, assign, Body, last, next, Right, unguarded, guarded, Clause, fact, rule, Program, done, clauses, Query, plain, stopped, arguments, item, tests, body, right, clause, program, query, Call, Goal, call_of, item_of, goals_of, right_of, clause_of, clauses_of, query_of, is_reserved, starts_with_variable, place_if, misplaced_goal, misplaced_query_goal, misplaced_body, misplaced_query, misplaced_clause, misplaced_program, first_place, ◌&&◌, not, flat_map}
use Rattle.ghc_reader.specs.declared.token.Token.TheVariants as token
use Rattle.ghc_reader.specs.Source as tree
use Rattle.ghc_reader.specs.Reserved.{is_stream}
use Rattle.ghc_reader.proofs.Append.{arguments_append, item_append, tests_append, clause_append}

-- the first of the places is at most m
abbrev pub StartsWithin : ℕ → List ℕ → Type 0
StartsWithin m ns = (n : ℕ) → first_place ns ≡ Some n → n ≤ m

nothing : (m : ℕ) → StartsWithin m []
nothing m n e = cc

wider : (m k : ℕ) (ns : List ℕ) → m ≤ k → StartsWithin m ns → StartsWithin k ns
wider m k ns less within n e = let h = within n e in omega arith

joined : (m : ℕ) (a b : List ℕ) → StartsWithin m a → StartsWithin m b → StartsWithin m (a ++ b)
joined m a b within within' n e = grind arith

placed : (m : ℕ) (b : Bool) (c : Call) → c.left ≤ m → StartsWithin m (place_if b c)
placed m true c less n e =
    let same : c.left ≡ n = cc in omega (arith, same)
placed m false c less n e = cc

-- ---- the tokens after a part are no more than those with it

item_longer : (i : Item) (ts : List Token) → length ts ≤ length (item i ts)
item_longer i ts = omega (arith, ap length (item_append i [] ts), length-append (item i []) ts)

arguments_longer : (a : Arguments) (ts : List Token) → length ts ≤ length (arguments a ts)
arguments_longer a ts = omega (arith, ap length (arguments_append a [] ts), length-append (arguments a []) ts)

tests_longer : (x : Tests) (ts : List Token) → length ts ≤ length (tests x ts)
tests_longer x ts = omega (arith, ap length (tests_append x [] ts), length-append (tests x []) ts)

pub clause_longer : (c : Clause) (ts : List Token) → length ts ≤ length (clause c ts)
clause_longer c ts = omega (arith, ap length (clause_append c [] ts), length-append (clause c []) ts)

-- ---- goals, for a test on calls

module _ (test : Call → Bool) (misplaced : Goal → List ℕ) (at_call : (c : Call) → misplaced (tree.call c) ≡ place_if (test c) c) (at_unify : (s t : tree.Tree) → misplaced (tree.unify s t) ≡ []) (at_assign : (v : List ℕ) (e : tree.Value) → misplaced (tree.assign v e) ≡ []) where
  item_within : (i : Item) (ts : List Token) → StartsWithin (length (item i ts)) (misplaced (item_of i ts))
  item_within (goal f a) ts =
      subst (StartsWithin (length (token.Name f ∷ arguments a ts))) (sym (at_call (call_of f a ts))) (placed _ (test (call_of f a ts)) (call_of f a ts) (omega arith))
  item_within (unify s t) ts = subst (StartsWithin _) (sym (at_unify _ _)) (nothing _)
  item_within (assign v e) ts = subst (StartsWithin _) (sym (at_assign _ _)) (nothing _)

  goals_within : (b : Body) (ts : List Token) → StartsWithin (length (body b ts)) (flat_map misplaced (goals_of b ts))
  goals_within (last i) ts = joined _ (misplaced (item_of i ts)) [] (item_within i ts) (nothing _)
  goals_within (next i b) ts =
      let behind = token.Mark Comma ∷ body b ts in
      joined _ (misplaced (item_of i behind)) (flat_map misplaced (goals_of b ts)) (item_within i behind)
      (wider (length (body b ts)) _ _ (omega (arith, item_longer i behind)) (goals_within b ts))

body_within : (b : Body) (ts : List Token) → StartsWithin (length (body b ts)) (misplaced_body (goals_of b ts))
body_within = goals_within is_stream misplaced_goal (λ c. refl) (λ s t. refl) (λ v e. refl)

right_within : (r : Right) (ts : List Token) → StartsWithin (length (right r ts)) (misplaced_body (right_of r ts).body)
right_within (unguarded b) ts = body_within b (token.Mark Stop ∷ ts)
right_within (guarded t b) ts =
    let behind = token.Mark Bar ∷ body b (token.Mark Stop ∷ ts) in
    wider (length (body b (token.Mark Stop ∷ ts))) _ _ (omega (arith, tests_longer t behind)) (body_within b (token.Mark Stop ∷ ts))

clause_within : (c : Clause) (ts : List Token) → StartsWithin (length (clause c ts)) (misplaced_clause (clause_of c ts))
clause_within (fact f a) ts =
    let head = call_of f a (token.Mark Stop ∷ ts) in
    joined _ (place_if (is_reserved head) head) [] (placed _ (is_reserved head) head (omega arith)) (nothing _)
clause_within (rule f a r) ts =
    let behind = token.Mark Define ∷ right r ts in
    let head = call_of f a behind in
    joined _ (place_if (is_reserved head) head) (misplaced_body (right_of r ts).body) (placed _ (is_reserved head) head (omega arith))
    (wider (length (right r ts)) _ _ (omega (arith, arguments_longer a behind)) (right_within r ts))

program_within : (p : Program) (ts : List Token) → StartsWithin (length (program p ts)) (misplaced_program (clauses_of p ts))
program_within done ts = nothing _
program_within (clauses c p) ts =
    joined _ (misplaced_clause (clause_of c (program p ts))) (misplaced_program (clauses_of p ts)) (clause_within c (program p ts))
    (wider (length (program p ts)) _ _ (clause_longer c (program p ts)) (program_within p ts))

query_within : (q : Query) → StartsWithin (length (query q [])) (misplaced_query (query_of q []))
query_within (plain b) =
    goals_within (λ c. is_stream c && not (starts_with_variable c.arguments)) misplaced_query_goal (λ c. refl) (λ s t. refl) (λ v e. refl) b []
query_within (stopped b) =
    goals_within (λ c. is_stream c && not (starts_with_variable c.arguments)) misplaced_query_goal (λ c. refl) (λ s t. refl) (λ v e. refl) b (token.Mark Stop ∷ [])

-- what is misplaced in the clauses of a program stands among its tokens
pub misplaced_in_tokens : (ts : List Token) (seen : List tree.Clause) (left : ℕ) → (p : Program) × (ts ≡ program p []) × (clauses_of p [] ≡ seen) → Some left ≡ first_place (misplaced_program seen) → left ≤ length ts
misplaced_in_tokens ts seen left (p, is, sees) e =
    let within = program_within p [] left (ap (λ s. first_place (misplaced_program s)) sees ∙ sym e) in omega (arith, ap length is, within)

asked_within : (q : Query) → StartsWithin (length (query q [])) (misplaced_body (query_of q []))
asked_within (plain b) = body_within b []
asked_within (stopped b) = body_within b (token.Mark Stop ∷ [])

-- and in the goals that are asked for in mid-run
pub misplaced_in_body_tokens : (ts : List Token) (seen : List Goal) (left : ℕ) → (q : Query) × (ts ≡ query q []) × (query_of q [] ≡ seen) → Some left ≡ first_place (misplaced_body seen) → left ≤ length ts
misplaced_in_body_tokens ts seen left (q, is, sees) e =
    let within = asked_within q left (ap (λ s. first_place (misplaced_body s)) sees ∙ sym e) in omega (arith, ap length is, within)

-- and what is misplaced in the goals of a query
pub misplaced_in_query_tokens : (ts : List Token) (seen : List Goal) (left : ℕ) → (q : Query) × (ts ≡ query q []) × (query_of q [] ≡ seen) → Some left ≡ first_place (misplaced_query seen) → left ≤ length ts
misplaced_in_query_tokens ts seen left (q, is, sees) e =
    let within = query_within q left (ap (λ s. first_place (misplaced_query s)) sees ∙ sym e) in omega (arith, ap length is, within)
