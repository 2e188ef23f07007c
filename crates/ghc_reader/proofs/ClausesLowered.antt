-- What guards, clauses and queries say, and which variables they meet.
use Rattle.ghc_reader.proofs.Words.{◌≡◌, ℕ, ◌+◌, ◌<◌, List, [], ◌∷◌, ◌++◌, length, map, take, get_or, refl, sym, ap, ◌∙◌, subst, append_assoc, append-nil, Comparison, variables_of_list, variables_of_expression, leaf_variables, variables_of_goals, SourceExpression, SourceTest, Guard, Tree, Trees, structure, empty, cell, none, some, Value, number, named, product, sum, Goal, value_view, test_view, test_views, WrittenClause, variables_of_guard, variables_of_guards, variables_of_written, WrittenQuery, Names, Says, SaysAll, SaysValue, SaysGuard, SaysGoal, SaysAsked, SaysQuery, SaysClause, Each, IsClosed, AreClosed, AreNamed, doing, AreCounted, MeetsAll}
use Rattle.ghc_term.specs.Expression.{Expression}
use Rattle.ghc_term.specs.Tree as term
use Rattle.ghc_reader.specs.declared.source.SourceTest.TheVariants as source
use Rattle.ghc_reader.specs.declared.written.Guard.TheVariants.{Comparison as comparison}
use Rattle.ghc_reader.specs.Source.{variable, integer, Test, plain, compare, Clause}
use Rattle.ghc_reader.proofs.Scopes.{Grows, grows, grows_twice, met_also}
use Rattle.ghc_reader.proofs.TermsLowered.{says_all_still}
use Rattle.ghc_reader.proofs.ExpressionsLowered.{value_still, mapped_more}
use Rattle.ghc_reader.proofs.Numbered.{met_are_named}
use Rattle.ghc_reader.proofs.GoalsLowered.{goal_still, each_still, each_push}

pub leaves_are_all : (v : Value) (names : Names) (e : Expression) → SaysValue names v e → leaf_variables e ≡ variables_of_expression e
leaves_are_all (number n) names e h = ap leaf_variables h ∙ sym (ap variables_of_expression h)
leaves_are_all (named v) names e h = ap leaf_variables h.1 ∙ sym (ap variables_of_expression h.1)
leaves_are_all (product o a b) names e h =
    ap leaf_variables h.2 ∙ ap (λ xs. xs ++ leaf_variables h.1) (leaves_are_all a names h.0 h.3) ∙ ap (λ xs. variables_of_expression h.0 ++ xs) (leaves_are_all b names h.1 h.4) ∙ sym (ap variables_of_expression h.2)
leaves_are_all (sum o a b) names e h =
    ap leaf_variables h.2 ∙ ap (λ xs. xs ++ leaf_variables h.1) (leaves_are_all a names h.0 h.3) ∙ ap (λ xs. variables_of_expression h.0 ++ xs) (leaves_are_all b names h.1 h.4) ∙ sym (ap variables_of_expression h.2)

-- a comparison says what its sides say
pub compare_says : (t : SourceTest) (l r : SourceExpression) (o : Comparison) (b c : Names) (x y : Expression) → t ≡ source.Compare l o r → SaysValue b (value_view l) x → MeetsAll b (variables_of_expression y) c → SaysValue c (value_view r) y → SaysGuard c (test_view t) (comparison o x y)
compare_says t l r o b c x y is h met k = subst (λ s. SaysGuard c (test_view s) (comparison o x y)) (sym is) (x, y, refl, value_still (value_view l) b c x (grows (variables_of_expression y) b c met) h, k)

pub compare_meets : (l r : Value) (o : Comparison) (a b c : Names) (x y : Expression) → SaysValue b l x → SaysValue c r y → MeetsAll a (variables_of_expression x) b → MeetsAll b (variables_of_expression y) c → MeetsAll a (variables_of_guard (comparison o x y)) c
compare_meets l r o a b c x y h k m n =
    met_also (leaf_variables x) (leaf_variables y) a b c (subst (λ xs. MeetsAll a xs b) (sym (leaves_are_all l b x h)) m) (subst (λ xs. MeetsAll b xs c) (sym (leaves_are_all r c y k)) n)

guard_still : (t : Test) (a b : Names) (w : Guard) → Grows a b → SaysGuard a t w → SaysGuard b t w
guard_still (plain g) a b w grow h = (h.0, h.1, goal_still g a b h.0 grow h.2)
guard_still (compare l o r) a b w grow h = (h.0, h.1, h.2, value_still l a b h.0 grow h.3, value_still r a b h.1 grow h.4)

-- one element more, in a list that is mapped
pub each_more : {A X Y : Type 0} (R S : X → Y → Type 0) (v : A → X) (xs : List A) (i : ℕ) (x : A) (us new : List Y) (u : Y) → ((x : X) (y : Y) → R x y → S x y) → i < length xs → x ≡ get_or xs i x → new ≡ us ++ u ∷ [] → Each R (map v (take i xs)) us → S (v x) u → Each S (map v (take (i + 1) xs)) new
each_more R S v xs i x us new u still less is grown h k =
    subst (λ l. Each S l new) (sym (mapped_more v xs i x less is)) (subst (Each S (map v (take i xs) ++ v x ∷ [])) (sym grown) (each_push S (map v (take i xs)) us (v x) u (each_still R S still (map v (take i xs)) us h) k))

-- one guard more
pub guards_say : (tests : List SourceTest) (i : ℕ) (t : SourceTest) (a b : Names) (us new : List Guard) (u : Guard) → i < length tests → t ≡ get_or tests i t → new ≡ us ++ u ∷ [] → Each (SaysGuard a) (test_views (take i tests)) us → SaysGuard b (test_view t) u → MeetsAll a (variables_of_guard u) b → Each (SaysGuard b) (test_views (take (i + 1) tests)) new
guards_say tests i t a b us new u less is grown h k met = each_more (SaysGuard a) (SaysGuard b) test_view tests i t us new u (λ x y r. guard_still x a b y (grows (variables_of_guard u) a b met) r) less is grown h k

variables_guard_push : (gs : List Guard) (g : Guard) → variables_of_guards (gs ++ g ∷ []) ≡ variables_of_guards gs ++ variables_of_guard g
variables_guard_push [] g = append-nil (variables_of_guard g)
variables_guard_push (h ∷ gs) g = ap (λ xs. variables_of_guard h ++ xs) (variables_guard_push gs g) ∙ sym (append_assoc (variables_of_guard h) (variables_of_guards gs) (variables_of_guard g))

pub guards_meet : (first a b : Names) (us new : List Guard) (u : Guard) → new ≡ us ++ u ∷ [] → MeetsAll first (variables_of_guards us) a → MeetsAll a (variables_of_guard u) b → MeetsAll first (variables_of_guards new) b
guards_meet first a b us new u grown m n = subst (λ xs. MeetsAll first xs b) (sym (ap variables_of_guards grown ∙ variables_guard_push us u)) (met_also (variables_of_guards us) (variables_of_guard u) first a b m n)

mutual
  -- a closed term says the same under any names
  pub closed_says : (t : Tree) (names : Names) (u : term.Tree) → IsClosed t → Says names t u → Says [] t u
  closed_says (variable v) names u c h = absurd c
  closed_says (integer n) names u c h = h
  closed_says (structure f ts) names u c h = (h.0, h.1, closed_say ts names h.0 c h.2)
  closed_says empty names u c h = h
  closed_says (cell t rest) names u c h = (h.0, h.1, h.2, closed_says t names h.0 c.0 h.3, closed_says rest names h.1 c.1 h.4)

  closed_say : (ts : Trees) (names : Names) (us : List term.Tree) → AreClosed ts → SaysAll names ts us → SaysAll [] ts us
  closed_say none names us c h = h
  closed_say (some t ts) names us c h = (h.0, h.1, h.2, closed_says t names h.0 c.0 h.3, closed_say ts names h.1 c.1 h.4)

-- a clause in its parts
pub clause_said : (c : Clause) (w : WrittenClause) (start one two all : Names) → start ≡ [] → w.variables ≡ all → w.name ≡ c.head.name → SaysAll one c.head.arguments w.head → MeetsAll start (variables_of_list w.head) one → Each (SaysGuard two) c.guard w.guards → MeetsAll one (variables_of_guards w.guards) two → Each (SaysGoal all) (doing c.body) w.body → MeetsAll two (variables_of_goals w.body) all → SaysClause c w
clause_said c w start one two all is_start names name head head_met guards guards_met body body_met =
    let in_guards = grows (variables_of_guards w.guards) one two guards_met in
    let in_body = grows (variables_of_goals w.body) two all body_met in
    let front = met_also (variables_of_list w.head) (variables_of_guards w.guards) start one two head_met guards_met in
    let met = met_also (variables_of_list w.head ++ variables_of_guards w.guards) (variables_of_goals w.body) start two all front body_met in
    let from_nothing : MeetsAll [] (variables_of_written w) all = subst (λ l. MeetsAll l (variables_of_written w) all) is_start met in
    record {
      name = name;
      head = subst (λ l. SaysAll l c.head.arguments w.head) (sym names) (says_all_still c.head.arguments one all w.head (grows_twice one two all in_guards in_body) head);
      guards = subst (λ l. Each (SaysGuard l) c.guard w.guards) (sym names) (each_still (SaysGuard two) (SaysGuard all) (λ t g h. guard_still t two all g in_body h) c.guard w.guards guards);
      body = subst (λ l. Each (SaysGoal l) (doing c.body) w.body) (sym names) body;
      variables = subst (λ l. AreNamed l (variables_of_written w)) (sym names) (met_are_named (variables_of_written w) all from_nothing);
    }

-- a query in its parts
pub query_said : (gs : List Goal) (q : WrittenQuery) (start all : Names) → start ≡ [] → q.variables ≡ all → Each (SaysAsked all) (doing gs) q.goals → MeetsAll start (variables_of_goals q.goals) all → AreCounted q.goals → SaysQuery gs q
query_said gs q start all is_start names goals met streams = record {
  goals = subst (λ l. Each (SaysAsked l) (doing gs) q.goals) (sym names) goals;
  streams = streams;
  variables = subst (λ l. AreNamed l (variables_of_goals q.goals)) (sym names) (met_are_named (variables_of_goals q.goals) all (subst (λ l. MeetsAll l (variables_of_goals q.goals) all) is_start met));
}
