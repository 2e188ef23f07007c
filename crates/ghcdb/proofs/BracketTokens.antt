-- What is read as asked for opens few brackets: its terms no more than the tokens of its text, but one, and its expressions as many as they have levels.
use Rattle.ghcdb.proofs.CitedWords.{◌≡◌, ◌+◌, ◌≤◌, ℕ, true, false, List, [], ◌∷◌, inl, inr, refl, sym, ap, ◌∙◌, subst, arith, None, In}
use Rattle.std.specs.Prelude.{max, not, cond}
use Rattle.std.proofs.lemmas.Bool.Decides.{nat_tests}
use Rattle.ghc_term.specs.declared.var_name.VarName.{VarName}
use Rattle.ghc_term.specs.Tree as term
use Rattle.ghc_term.specs.Tree.{node, trees}
use Rattle.ghc_term.specs.Expression as shown
use Rattle.ghc_term.specs.Goal as goal
use Rattle.ghc_term.specs.InputTerm.{nesting, cell_nesting, rest_nesting, arguments_nesting, deepest}
use Rattle.ghc_reader.specs.declared.token.Mark.TheVariants.{Close, CloseList, Comma, Bar, Equals, Stop}
use Rattle.ghc_reader.specs.declared.token.Token.{Token}
use Rattle.ghc_reader.specs.declared.token.Token.TheVariants as token
use Rattle.ghc_reader.specs.Amounts as amounts
use Rattle.ghc_reader.specs.Derived.{tree_of, trees_of, cells_of, value_of, item_of, goals_of, query_of}
use Rattle.ghc_reader.specs.Grammar.{Term, variable, integer, call, list, without, within, closed, whole, partial, Terms, one, more, Operand, Factors, factor, factors, Expression, summand, summands, Item, Body, last, next, Query, plain, stopped, query}
use Rattle.ghc_reader.specs.Grammar as grammar
use Rattle.ghc_reader.specs.Limits.{first_exceeded, of_ask}
use Rattle.ghc_reader.specs.Lowered.{Each, IsCalled, Names, SaysAllBy, SaysBy, SaysGoalBy, SaysValueBy, doing, is_true}
use Rattle.ghc_reader.specs.Read.{IsReadAsk}
use Rattle.ghc_reader.specs.Source as source
use Rattle.ghc_reader.specs.WrittenAsk.{WrittenAsk}
use Rattle.ghc_reader.proofs.InputSizes.{closes, most_open, shallow_opens, rest_deep}
use Rattle.ghcdb.proofs.BracketTexts.{goal_depth, levels}

-- ---- terms

cell_deep : (ts : term.Trees) → cell_nesting ts ≤ deepest ts
cell_deep term.none = omega arith
cell_deep (term.more t term.none) = omega arith
cell_deep (term.more t (term.more u term.none)) = omega (arith, rest_deep u)
cell_deep (term.more t (term.more u (term.more v ts))) = omega arith

arguments_deep : (ts : term.Trees) → arguments_nesting ts ≤ 1 + deepest ts
arguments_deep term.none = omega arith
arguments_deep (term.more t ts) = omega arith

node_deep : (f : List ℕ) (ts : term.Trees) → nesting (node f ts) ≤ 1 + deepest ts
node_deep f ts = grind (arith, cell_deep ts, arguments_deep ts)

mutual
  term_behind : (t : Term) (n : ℕ) (ts : List Token) → most_open n ts ≤ most_open n (grammar.term t ts)
  term_behind (variable v) n ts = omega arith
  term_behind (integer z) n ts = omega arith
  term_behind (call f without) n ts = omega arith
  term_behind (call f (within a)) n ts = omega (arith, terms_behind a (n + 1) (token.Mark Close ∷ ts), closes n ts)
  term_behind (list closed) n ts = omega (arith, closes n ts)
  term_behind (list (whole a)) n ts = omega (arith, terms_behind a (n + 1) (token.Mark CloseList ∷ ts), closes n ts)
  term_behind (list (partial a t)) n ts =
      omega (arith, terms_behind a (n + 1) (token.Mark Bar ∷ grammar.term t (token.Mark CloseList ∷ ts)), term_behind t (n + 1) (token.Mark CloseList ∷ ts), closes n ts)

  terms_behind : (a : Terms) (n : ℕ) (ts : List Token) → most_open n ts ≤ most_open n (grammar.terms a ts)
  terms_behind (one t) n ts = term_behind t n ts
  terms_behind (more t a) n ts = omega (arith, term_behind t n (token.Mark Comma ∷ grammar.terms a ts), terms_behind a n ts)

module _ (C : List ℕ → VarName → Type 0) where
  -- the elements of a list, and its end
  record Parts (a : Terms) (end : source.Tree) (u : term.Tree) : Type 0 where
    elements : List term.Tree
    final : term.Tree
    say : SaysAllBy C (trees_of a) elements
    ends : SaysBy C end final
    deep : nesting u ≤ 1 + max (deepest (trees elements)) (rest_nesting final)
    rest : rest_nesting u ≤ max (deepest (trees elements)) (rest_nesting final)

  parts : (a : Terms) (end : source.Tree) (u : term.Tree) → SaysBy C (cells_of a end) u → Parts a end u
  parts (one t) end u (x, b, is, first, behind) = record {
    elements = x ∷ [];
    final = b;
    say = (x, [], refl, first, refl);
    ends = behind;
    deep = omega (arith, ap nesting is);
    rest = omega (arith, ap rest_nesting is);
  }
  parts (more t a) end u (x, b, is, first, behind) =
      let p = parts a end b behind in
      record {
        elements = x ∷ p.elements;
        final = p.final;
        say = (x, p.elements, refl, first, p.say);
        ends = p.ends;
        deep = omega (arith, ap nesting is, p.rest);
        rest = omega (arith, ap rest_nesting is, p.rest);
      }

  mutual
    term_deep : (t : Term) (n : ℕ) (ts : List Token) (u : term.Tree) → SaysBy C (tree_of t) u → n + nesting u ≤ most_open n (grammar.term t ts) + 1
    term_deep (variable v) n ts u says = omega (arith, ap nesting says.1)
    term_deep (integer z) n ts u says = omega (arith, ap nesting says)
    term_deep (call f without) n ts u says = omega (arith, ap nesting (says.1 ∙ ap (λ l. node f (trees l)) says.2), node_deep f term.none)
    term_deep (call f (within a)) n ts u says = omega (arith, ap nesting says.1, node_deep f (trees says.0), terms_deep a (n + 1) (token.Mark Close ∷ ts) says.0 says.2)
    term_deep (list closed) n ts u says = omega (arith, ap nesting says)
    term_deep (list (whole a)) n ts u says =
        let p = parts a source.empty u says in
        omega (arith, p.deep, ap rest_nesting p.ends, terms_deep a (n + 1) (token.Mark CloseList ∷ ts) p.elements p.say)
    term_deep (list (partial a t)) n ts u says =
        let p = parts a (tree_of t) u says in
        omega (
          arith,
          p.deep,
          rest_deep p.final,
          terms_deep a (n + 1) (token.Mark Bar ∷ grammar.term t (token.Mark CloseList ∷ ts)) p.elements p.say,
          terms_behind a (n + 1) (token.Mark Bar ∷ grammar.term t (token.Mark CloseList ∷ ts)),
          term_deep t (n + 1) (token.Mark CloseList ∷ ts) p.final p.ends,
        )

    terms_deep : (a : Terms) (n : ℕ) (ts : List Token) (us : List term.Tree) → SaysAllBy C (trees_of a) us → n + deepest (trees us) ≤ most_open n (grammar.terms a ts) + 1
    terms_deep (one t) n ts us (x, rest, is, first, none) = omega (arith, ap (λ l. deepest (trees l)) (is ∙ ap (λ l. x ∷ l) none), term_deep t n ts x first)
    terms_deep (more t a) n ts us (x, rest, is, first, others) =
        omega (arith, ap (λ l. deepest (trees l)) is, term_deep t n (token.Mark Comma ∷ grammar.terms a ts) x first, term_behind t n (token.Mark Comma ∷ grammar.terms a ts), terms_deep a n ts rest others)

  -- ---- expressions

  levels_said : (v : source.Value) (e : shown.Expression) → SaysValueBy C v e → levels e ≡ amounts.levels v
  levels_said (source.number z) e says = ap levels says
  levels_said (source.named v) e says = ap levels says.1
  levels_said (source.product o a b) e says = omega (arith, ap levels says.2, levels_said a says.0 says.3, levels_said b says.1 says.4)
  levels_said (source.sum o a b) e says = omega (arith, ap levels says.2, levels_said a says.0 says.3, levels_said b says.1 says.4)

  -- ---- goals

  item_deep : (i : Item) (ts : List Token) (g : goal.Goal) → most_open 0 (grammar.item i ts) ≤ 64 → amounts.levels_of_goal (item_of i ts) ≤ 1000 → SaysGoalBy C (item_of i ts) g → goal_depth g ≤ 1000
  item_deep (grammar.goal f without) ts g bound low says = omega (arith, ap goal_depth (says.1 ∙ ap (λ l. goal.call f l) says.2))
  item_deep (grammar.goal f (within a)) ts g bound low says =
      omega (arith, bound, ap goal_depth says.1, arguments_deep (trees says.0), terms_deep a 1 (token.Mark Close ∷ ts) says.0 says.2)
  item_deep (grammar.unify s t) ts g bound low says =
      omega (arith, bound, ap goal_depth says.2, term_deep s 0 (token.Mark Equals ∷ grammar.term t ts) says.0 says.3, term_behind s 0 (token.Mark Equals ∷ grammar.term t ts), term_deep t 0 ts says.1 says.4)
  item_deep (grammar.assign v e) ts g bound low says = omega (arith, low, ap goal_depth says.2, levels_said (value_of e) says.1 says.4)

mutual
  operand_behind : (u : Operand) (n : ℕ) (ts : List Token) → most_open n ts ≤ most_open n (grammar.operand u ts)
  operand_behind (grammar.number z) n ts = omega arith
  operand_behind (grammar.named v) n ts = omega arith
  operand_behind (grammar.nested e) n ts = omega (arith, expression_behind e (n + 1) (token.Mark Close ∷ ts), closes n ts)

  product_behind : (p : Factors) (n : ℕ) (ts : List Token) → most_open n ts ≤ most_open n (grammar.product p ts)
  product_behind (factor u) n ts = operand_behind u n ts
  product_behind (factors u o p) n ts = omega (arith, operand_behind u n (token.Product o ∷ grammar.product p ts), product_behind p n ts)

  expression_behind : (e : Expression) (n : ℕ) (ts : List Token) → most_open n ts ≤ most_open n (grammar.expression e ts)
  expression_behind (summand p) n ts = product_behind p n ts
  expression_behind (summands p o e) n ts = omega (arith, product_behind p n (token.Sum o ∷ grammar.expression e ts), expression_behind e n ts)

item_behind : (i : Item) (ts : List Token) → most_open 0 ts ≤ most_open 0 (grammar.item i ts)
item_behind (grammar.goal f a) ts = term_behind (call f a) 0 ts
item_behind (grammar.unify s t) ts = omega (arith, term_behind s 0 (token.Mark Equals ∷ grammar.term t ts), term_behind t 0 ts)
item_behind (grammar.assign v e) ts = omega (arith, expression_behind e 0 ts)

module _ (C : List ℕ → VarName → Type 0) where
  -- what says this goal is not deep
  abbrev IsShallow : source.Goal → Type 0
  IsShallow x = (g : goal.Goal) → SaysGoalBy C x g → goal_depth g ≤ 1000

  body_deep : (b : Body) (ts : List Token) → most_open 0 (grammar.body b ts) ≤ 64 → amounts.largest amounts.levels_of_goal (goals_of b ts) ≤ 1000 → (x : source.Goal) → In x (goals_of b ts) → IsShallow x
  body_deep (last i) ts bound low x (inl e) g says = item_deep C i ts g bound (omega (arith, low)) (subst (λ y. SaysGoalBy C y g) e says)
  body_deep (last i) ts bound low x (inr none) g says = absurd none
  body_deep (next i b) ts bound low x (inl e) g says = item_deep C i (token.Mark Comma ∷ grammar.body b ts) g bound (omega (arith, low)) (subst (λ y. SaysGoalBy C y g) e says)
  body_deep (next i b) ts bound low x (inr j) g says =
      body_deep b ts (omega (arith, bound, item_behind i (token.Mark Comma ∷ grammar.body b ts))) (omega (arith, low)) x j g says

  query_deep : (q : Query) → most_open 0 (query q []) ≤ 64 → amounts.largest amounts.levels_of_goal (query_of q []) ≤ 1000 → (x : source.Goal) → In x (query_of q []) → IsShallow x
  query_deep (plain b) bound low = body_deep b [] bound low
  query_deep (stopped b) bound low = body_deep b (token.Mark Stop ∷ []) bound low

  -- each goal that is said is said by one of those that do something
  goals_deep : (xs : List source.Goal) (gs : List goal.Goal) → Each (SaysGoalBy C) (doing xs) gs → ((x : source.Goal) → In x xs → IsShallow x) → (g : goal.Goal) → In g gs → goal_depth g ≤ 1000
  goals_deep xs gs says shallow = of_each (doing xs) gs says (λ x i. shallow x (one_of xs x i))
    where
      one_of : (ys : List source.Goal) (x : source.Goal) → In x (doing ys) → In x ys
      one_of [] x i = i
      one_of (y ∷ ys) x i = elim (is_true y) as (λ b. In x (cond (not b) (y ∷ doing ys) (doing ys)) → In x (y ∷ ys)) [
        | true ↦ λ j. inr (one_of ys x j)
        | false ↦ λ j. elim j [ inl e ↦ inl e | inr k ↦ inr (one_of ys x k) ]
      ] i

      of_each : (ys : List source.Goal) (hs : List goal.Goal) → Each (SaysGoalBy C) ys hs → ((x : source.Goal) → In x ys → IsShallow x) → (g : goal.Goal) → In g hs → goal_depth g ≤ 1000
      of_each [] [] said all g i = absurd i
      of_each [] (h ∷ hs) said all g i = absurd said
      of_each (y ∷ ys) [] said all g i = absurd said
      of_each (y ∷ ys) (h ∷ hs) said all g (inl e) = subst (λ z. goal_depth z ≤ 1000) (sym e) (all y (inl refl) h said.0)
      of_each (y ∷ ys) (h ∷ hs) said all g (inr i) = of_each ys hs said.1 (λ x j. all x (inr j)) g i

few_levels : (xs : List source.Goal) → first_exceeded (of_ask xs) ≡ None → amounts.largest amounts.levels_of_goal xs ≤ 1000
few_levels xs fine = grind (arith, nat_tests)

-- The goals of what is read as asked for are not deep.
pub asked_shallow : (names : Names) (text : List ℕ) (a : WrittenAsk) → IsReadAsk names text a → (g : goal.Goal) → In g a.goals → goal_depth g ≤ 1000
asked_shallow names text a (seen, read, says) =
    let derived = read.derived in
    let bound = subst (λ l. most_open 0 l ≤ 64) derived.spelled (shallow_opens read.tokens (derived.scanned.shallow refl)) in
    let low = few_levels seen read.within in
    goals_deep (IsCalled says.names) seen a.goals says.goals
    (subst (λ (l : List source.Goal). (x : source.Goal) → In x l → IsShallow (IsCalled says.names) x) derived.sees
    (query_deep (IsCalled says.names) derived.derivation bound (subst (λ (l : List source.Goal). amounts.largest amounts.levels_of_goal l ≤ 1000) (sym derived.sees) low)))
