-- A chronicle that a text tells can be carried out.
use Rattle.ghc_core.proofs.Words.{ℕ, List, subst, In, at_of_in, Act, Step, SaysAct, SaysStep, Chronicle, TellsChronicle}
use Rattle.ghc_core.specs.ResumeLaws as laws

module _ (text : List ℕ) (c : Chronicle) (told : TellsChronicle text c) where
  -- a line says each step of the opening
  line_of : (s : Step) → In s c.opening.steps → (line : List ℕ) × SaysStep line s
  line_of s i =
      let at = at_of_in c.opening.steps s i in
      let said = told.spies.entries.opening.steps.told.each at.0 s at.1 in
      (said.0, said.2)

  pub can_be_resumed : laws.CanBeResumed c
  can_be_resumed = record {
    opening = record {
      few = told.spies.entries.opening.steps.few;
      numbered = λ s i. ((line_of s i).1.number.0, told.spies.entries.opening.steps.told.fit.1 s i);
      of_goals = λ s i. ((line_of s i).1.goal, (line_of s i).1.of_goal);
      unasked = λ s gs i e. let says = (line_of s i).1 in subst (λ (a : Act). SaysAct says.act a) e says.says;
      of_clauses = λ s k i e. let says = (line_of s i).1 in (subst (λ (a : Act). SaysAct says.act a) e says.says).1;
      distinct = told.spies.entries.opening.steps.told.fit.0;
      next_number = told.spies.entries.opening.next;
    };
    entries = told.spies.entries.entries.few;
    spies = told.spies.spies.few;
    next = told.next;
  }
