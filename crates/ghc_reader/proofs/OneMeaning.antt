-- A parse tree says one term, clause or query, so a text is read in one way.
use Rattle.ghc_reader.proofs.Words.{◌≡◌, ℕ, ◌+◌, List, [], ◌∷◌, ◌++◌, Option, Some, refl, sym, ap, ◌∙◌, subst, append_assoc, VarName, variables_of_list, variables_of_goals, Goal, a_program, a_query, a_term, an_ask, a_body, WrittenClause, WrittenQuery, AreApart, variables_of_guards, variables_of_written, WrittenAsk, IsNaming, of_state, of_no_step, is_new, SaysAsk, Names, IsCalled, Each, SaysClause, SaysQuery, doing, Says, IsReadProgram, IsReadQuery, IsReadTerm, IsReadAsk, IsReadBody, IsReadInOneWay, names_of_clause, names_of_goals, greatest_number, IsRead}
use Rattle.ghc_term.specs.Tree as term
use Rattle.ghc_reader.specs.Source.{Clause}
use Rattle.ghc_reader.specs.Tests.{Kind}
use Rattle.ghc_reader.specs.WrittenAsk.{of_query}
use Rattle.ghc_reader.proofs.Whole.{one_query}
use Rattle.ghc_reader.proofs.OneReading.{answered_once, one_program_tree, one_input_tree}
use Rattle.ghc_reader.proofs.OneNaming.{one_naming}
use Rattle.ghc_reader.proofs.Meanings.{said}
use Rattle.ghc_reader.proofs.NamesIn.{clause_called, query_called, asked_called}
use Rattle.ghc_reader.proofs.Values.{same_numbers}
use Rattle.ghc_reader.proofs.OneSaying.{one_list, one_guards, one_body, one_question}

-- a parse tree of a clause says one clause
one_clause : (c : Clause) (w z : WrittenClause) → SaysClause c w → SaysClause c z → w ≡ z
one_clause c w z s t =
    let naming = one_naming (names_of_clause c) (variables_of_written w) (variables_of_written z) w.variables z.variables s.variables t.variables (clause_called c w s) (clause_called c z t) in
    let behind = sym (append_assoc (variables_of_list w.head) (variables_of_guards w.guards) (variables_of_goals w.body)) ∙ naming.0 ∙ append_assoc (variables_of_list z.head) (variables_of_guards z.guards) (variables_of_goals z.body) in
    let head = one_list w.variables z.variables c.head.arguments w.head z.head (variables_of_guards w.guards ++ variables_of_goals w.body) (variables_of_guards z.guards ++ variables_of_goals z.body) s.head t.head behind in
    let guards = one_guards w.variables z.variables c.guard w.guards z.guards (variables_of_goals w.body) (variables_of_goals z.body) s.guards t.guards head.1 in
    let body = one_body w.variables z.variables (doing c.body) w.body z.body s.body t.body guards.1 in
    let name = s.name ∙ sym t.name in
    λ i. record { name = name i; head = head.0 i; guards = guards.0 i; body = body i; variables = naming.1 i }

-- what each says is one, where what one says is one
each_one : {X Y : Type 0} (R : X → Y → Type 0) → ((x : X) (y z : Y) → R x y → R x z → y ≡ z) → (xs : List X) (ys zs : List Y) → Each R xs ys
    → Each R xs zs → ys ≡ zs
each_one R one [] [] [] h k = refl
each_one R one (x ∷ xs) (y ∷ ys) (z ∷ zs) h k =
    let first = one x y z h.0 k.0 in
    let second = each_one R one xs ys zs h.1 k.1 in
    λ i. first i ∷ second i
each_one R one [] (y ∷ ys) zs h k = absurd h
each_one R one (x ∷ xs) [] zs h k = absurd h
each_one R one xs ys zs h k = absurd k

-- parse trees of goals say one query
one_asking : (gs : List Goal) (q r : WrittenQuery) → SaysQuery gs q → SaysQuery gs r → q ≡ r
one_asking gs q r s t =
    let naming = one_naming (names_of_goals gs) (variables_of_goals q.goals) (variables_of_goals r.goals) q.variables r.variables s.variables t.variables (query_called gs q s) (query_called gs r t) in
    let goals = one_question q.variables r.variables (doing gs) q.goals r.goals s.goals t.goals s.streams t.streams naming.0 in
    λ i. record { goals = goals i; variables = naming.1 i }

-- ---- what is asked for in mid-run

-- a name names one variable of the state, or none
module _ (query : Names) (apart : AreApart query) where
  one_name : (v : List ℕ) (o p : Option VarName) → IsNaming query v o → IsNaming query v p → o ≡ p
  one_name v o p (of_state {n} {m} h less) (of_state {n = k} {m = l} h' less') =
      let same = same_numbers v n m k l h.0 h'.0 in
      λ i. Some (record { step = same.0 i; place = same.1 i })
  one_name v o p (of_state {n} {m} h less) (of_no_step {m = l} h') = absurd (less (same_numbers v n m greatest_number l h.0 h'.0).0)
  one_name v o p (of_state {n} {m} h less) (of_query i none named at) = absurd (none n m h)
  one_name v o p (of_state {n} {m} h less) (is_new none absent) = absurd (none n m h)
  one_name v o p (of_no_step {m} h) (of_state {n = k} {m = l} h' less') = absurd (less' (same_numbers v k l greatest_number m h'.0 h.0).0)
  one_name v o p (of_no_step {m} h) (of_no_step {m = l} h') = refl
  one_name v o p (of_no_step {m} h) (of_query i none named at) = absurd (none greatest_number m h)
  one_name v o p (of_no_step {m} h) (is_new none absent) = absurd (none greatest_number m h)
  one_name v o p (of_query i none named at) (of_state {n = k} {m = l} h' less') = absurd (none k l h')
  one_name v o p (of_query i none named at) (of_no_step {m = l} h') = absurd (none greatest_number l h')
  one_name v o p (of_query i none named at) (of_query j none' named' at') = ap (λ k. Some (record { step = 0; place = k + 1 })) (apart i j v at at' named)
  one_name v o p (of_query i none named at) (is_new none' absent) = absurd (named (absent i at))
  one_name v o p (is_new none absent) (of_state {n = k} {m = l} h' less') = absurd (none k l h')
  one_name v o p (is_new none absent) (of_no_step {m = l} h') = absurd (none greatest_number l h')
  one_name v o p (is_new none absent) (of_query j none' named' at') = absurd (named' (absent j at'))
  one_name v o p (is_new none absent) (is_new none' absent') = refl

  -- parse trees of goals ask for one thing
  one_ask : (gs : List Goal) (a b : WrittenAsk) → SaysAsk query gs a → SaysAsk query gs b → a ≡ b
  one_ask gs a b s t =
      let naming = one_naming (names_of_goals gs) (variables_of_goals a.goals) (variables_of_goals b.goals) s.names t.names s.variables t.variables (asked_called (IsCalled s.names) gs a.goals s.goals) (asked_called (IsCalled t.names) gs b.goals t.goals) in
      let goals = one_body s.names t.names (doing gs) a.goals b.goals s.goals t.goals naming.0 in
      let named = each_one (IsNaming query) one_name t.names a.named b.named (subst (λ vs. Each (IsNaming query) vs a.named) naming.1 s.named) t.named in
      λ i. record { goals = goals i; named = named i }

-- ---- texts

one_read : (K : Kind) → ((d e : K.Derivation) → K.spell d [] ≡ K.spell e [] → K.tree d ≡ K.tree e) → {A : Type 0} (R : K.Seen → A → Type 0)
    → ((s : K.Seen) (a b : A) → R s a → R s b → a ≡ b) → (text : List ℕ) (a b : A)
    → (s : K.Seen) × IsRead K text s × R s a → (s : K.Seen) × IsRead K text s × R s b → a ≡ b
one_read K one R same text a b x y = same y.0 a b (subst (λ s. R s a) ((answered_once K one text).one_tree x.0 y.0 x.1 y.1) x.2) y.2

pub one_program_read : (text : List ℕ) (ws zs : List WrittenClause) → IsReadProgram text ws → IsReadProgram text zs → ws ≡ zs
one_program_read = one_read a_program one_program_tree (Each SaysClause) (each_one SaysClause one_clause)

pub one_query_read : (text : List ℕ) (q r : WrittenQuery) → IsReadQuery text q → IsReadQuery text r → q ≡ r
one_query_read = one_read a_query one_query SaysQuery one_asking

pub one_term_read : (text : List ℕ) (u w : term.Tree) → IsReadTerm text u → IsReadTerm text w → u ≡ w
one_term_read = one_read a_term one_input_tree (Says []) (λ s u w h k. said s u h ∙ sym (said s w k))

pub one_ask_read : (query : Names) → AreApart query → (text : List ℕ) (a b : WrittenAsk) → IsReadAsk query text a → IsReadAsk query text b → a ≡ b
one_ask_read query apart = one_read an_ask one_query (SaysAsk query) (one_ask query apart)

pub one_body_read : (text : List ℕ) (a b : WrittenAsk) → IsReadBody text a → IsReadBody text b → a ≡ b
one_body_read = one_read a_body one_query (SaysAsk []) (one_ask [] (λ i j v e f named. cc))

pub read_in_one_way : (text : List ℕ) → IsReadInOneWay text
read_in_one_way text = record { program = one_program_read text; query = one_query_read text; term = one_term_read text; ask = λ query a other apart x y. one_ask_read query apart text a other x y }
