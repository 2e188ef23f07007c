-- A line says one step, and pieces tell one list of steps.
use Rattle.ghc_records.proofs.Words.{◌≡◌, ℕ, ◌+◌, ◌≤◌, List, [], ◌∷◌, ◌++◌, get_or, refl, sym, ap, ◌∙◌, subst, arith, decimal, Some, codes, append_cancel_left, GoalName, Tree, IsReadTerm, Act, ByClause as by_clause, Unified as unified, Assigned as assigned, Given as given, Closed as closed, Asked as asked, Step, goal_name_text, IsLineOf, SaysAct, SaysStep, greatest_number}
use Rattle.ghc_records.proofs.CutLemmas.{cut_once, number_plain, one_number}
use Rattle.ghc_records.proofs.Saying.{goal_plain, line_apart, one_step_number}

-- the first two bytes of an act, in sum
abbrev begun : Act → ℕ
begun (by_clause k) = 219
begun unified = 214
begun assigned = 220
begun (given u) = 215
begun closed = 211
begun (asked gs) = 0

begins : (bytes : List ℕ) (a : Act) → SaysAct bytes a → get_or bytes 0 0 + get_or bytes 1 0 ≡ begun a
begins bytes (by_clause k) h = ap (λ l. get_or l 0 0 + get_or l 1 0) h.0
begins bytes (given u) h = ap (λ l. get_or l 0 0 + get_or l 1 0) h.1
begins bytes (asked gs) h = absurd h
begins bytes a h = ap (λ l. get_or l 0 0 + get_or l 1 0) h

pub one_line : (pieces : List (List ℕ)) (i : ℕ) (line other : List ℕ) → IsLineOf pieces i line → IsLineOf pieces i other → line ≡ other
one_line pieces i line other (next, more, e) (further, others, f) = ap (λ l. get_or l 0 []) (sym e ∙ f)

-- what two acts say alike in these bytes says one act, as a text is that of one term
module _ (one_term : (text : List ℕ) (u other : Tree) → IsReadTerm text u → IsReadTerm text other → u ≡ other) where
  alike : (a b : Act) → begun a ≡ begun b → (bytes : List ℕ) → SaysAct bytes a → SaysAct bytes b → a ≡ b
  alike (by_clause k) (by_clause m) e bytes h i = ap by_clause (one_number k m h.2 i.2 (append_cancel_left (codes "by ") (decimal k) (decimal m) (sym h.0 ∙ i.0)))
  alike unified unified e bytes h i = refl
  alike assigned assigned e bytes h i = refl
  alike (given u) (given v) e bytes h i =
      let same : h.0 ≡ i.0 = append_cancel_left (codes "in ") h.0 i.0 (sym h.1 ∙ i.1) in
      ap given (one_term i.0 u v (subst (λ l. IsReadTerm l u) same h.2) i.2)
  alike closed closed e bytes h i = refl
  alike (asked gs) b e bytes h i = absurd h
  alike a b e bytes h i = absurd (omega (arith, e))

  one_act : (bytes : List ℕ) (a b : Act) → SaysAct bytes a → SaysAct bytes b → a ≡ b
  one_act bytes a b h i = alike a b (sym (begins bytes a h) ∙ begins bytes b i) bytes h i

  -- the name of a goal is cut at its point in one way
  one_goal : (g other : GoalName) → (g.step ≤ greatest_number) × (g.place ≤ greatest_number) → (other.step ≤ greatest_number) × (other.place ≤ greatest_number) → goal_name_text g ≡ goal_name_text other → g ≡ other
  one_goal g other small low e =
      let (a, b) = cut_once 46 (decimal g.step) (decimal g.place) (decimal other.step) (decimal other.place) (number_plain 46 g.step refl small.0) (number_plain 46 other.step refl low.0) e in
      ap (λ n. record { step = n; place = g.place }) (one_number g.step other.step small.0 low.0 a) ∙ ap (λ n. record { step = other.step; place = n }) (one_number g.place other.place small.1 low.1 b)

  same_step : (s t : Step) → s.number ≡ t.number → s.goal ≡ t.goal → s.act ≡ t.act → s ≡ t
  same_step s t number goal act =
      ap (λ n. record { number = n; goal = s.goal; act = s.act }) number ∙ ap (λ g. record { number = t.number; goal = g; act = s.act }) goal ∙ ap (λ a. record { number = t.number; goal = t.goal; act = a }) act

  pub one_step : (line : List ℕ) (s t : Step) → SaysStep line s → SaysStep line t → s ≡ t
  one_step line s t h i =
      let rest : goal_name_text h.goal ++ 32 ∷ h.act ≡ goal_name_text i.goal ++ 32 ∷ i.act =
      (line_apart line (decimal s.number) (goal_name_text h.goal ++ 32 ∷ h.act) t h.parts (number_plain 32 s.number refl h.number.1) i).1 in
      let (goals, acts) = cut_once 32 (goal_name_text h.goal) h.act (goal_name_text i.goal) i.act (goal_plain h.goal h.goal_numbers.0 h.goal_numbers.1) (goal_plain i.goal i.goal_numbers.0 i.goal_numbers.1) rest in
      same_step s t (one_step_number line s t h i) (h.of_goal ∙ ap Some (one_goal h.goal i.goal h.goal_numbers i.goal_numbers goals) ∙ sym i.of_goal)
      (one_act i.act s.act t.act (subst (λ l. SaysAct l s.act) acts h.says) i.says)
