-- A history that a text tells is of the form.
use Rattle.ghc_records.proofs.Words.{◌≡◌, ℕ, ◌≤◌, List, subst, GoalName, In, at_of_in, Tree, IsInputTerm, IsReadTerm, Step, History, IsHistory, SaysAct, SaysStep, TellsHistory, IsInRange, IsOfAGoal}

-- a line says each step
line_of : (text : List ℕ) (h : History) → TellsHistory text h → (s : Step) → In s h.steps → (line : List ℕ) × SaysStep line s
line_of text h told s i =
    let (k, e) = at_of_in h.steps s i in
    let (line, stands, says) = told.steps.each k s e in
    (line, says)

pub told_history : (text : List ℕ) (h : History) → TellsHistory text h → IsHistory h
told_history text h told = record {
  few = told.count.1;
  numbered = λ s i. let (line, says) = line_of text h told s i in (says.number.0, told.steps.below h.next s told.next i);
  of_goals = λ s i. let (line, says) = line_of text h told s i in (says.goal, says.of_goal);
  unasked = λ s gs i e. let (line, says) = line_of text h told s i in subst (SaysAct says.act) e says.says;
  of_clauses = λ s k i e. let (line, says) = line_of text h told s i in (subst (SaysAct says.act) e says.says).1;
  distinct = told.steps.distinct;
  next_number = (told.next.1, told.next.2);
}

-- a step that a line says consumes a goal
pub said_of_goal : (only : (text : List ℕ) (u : Tree) → IsReadTerm text u → IsInputTerm u) (line : List ℕ) (s : Step) → SaysStep line s → IsOfAGoal s
said_of_goal only line s says = record {
  number = says.number;
  goal = (says.goal, says.of_goal);
  unasked = λ gs e. subst (SaysAct says.act) e says.says;
  clause = λ k e. (subst (SaysAct says.act) e says.says).1;
  range = record {
    goal = λ g e. let same : says.goal ≡ g = cc in (subst (λ (n : GoalName). n.step ≤ 4294967295) same says.goal_numbers.0, subst (λ (n : GoalName). n.place ≤ 4294967295) same says.goal_numbers.1);
    clause = λ k e. (subst (SaysAct says.act) e says.says).2;
    input = λ u e. let told_input = subst (SaysAct says.act) e says.says in only told_input.0 u told_input.2;
  };
}

pub told_in_range : (only : (text : List ℕ) (u : Tree) → IsReadTerm text u → IsInputTerm u) (text : List ℕ) (h : History) → TellsHistory text h → (s : Step) → In s h.steps → IsInRange s
told_in_range only text h told s i = let (line, says) = line_of text h told s i in (said_of_goal only line s says).range
